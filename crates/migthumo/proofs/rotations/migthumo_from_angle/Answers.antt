-- The test of the length, and the rotation behind it. Assumes nothing.
use Rattle.std.proofs.Common.{rules, refl}
use Rattle.vector.specs.Refusals.{given}
use Rattle.matrix.specs.Rotations.{from_angle2}
use Rattle.migthumo.proofs.Entries.{answers}
use Rattle.migthumo.proofs.rotations.migthumo_from_angle.Goals as goal

pub returns : goal.returns
returns c = answers _ c.answered.ensures refl refl (c.of_none.ensures (given (from_angle2 c.args.s c.args.c)) (λ r p. search rules))
