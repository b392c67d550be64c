-- Each arm is the one law of its order. Assumes nothing.
use Rattle.std.proofs.Common.{rules, arith}
use Rattle.vector.specs.Refusals.{given}
use Rattle.vector.specs.Vectors.{vector3}
use Rattle.matrix.specs.Rotations.{from_axis_angle3, from_axis_angle4}
use Rattle.migthumo.proofs.Entries.{rotation3, rotation4, no_rotation}
use Rattle.migthumo.proofs.rotations.migthumo_from_axis_angle.Goals as goal
use Rattle.migthumo.proofs.rotations.migthumo_from_axis_angle.Goals.{in-3, in-4, in_default}

pub returns : goal.returns
returns c =
    let is = c.answered.ensures in
    elim c.match-order.branch [
      | in-3 w ↦ rotation3 is w.answered-is w.out-is _ _ w.in-3.is (w.of_none.ensures (given (from_axis_angle3 (vector3 c.args.x c.args.y c.args.z) c.args.s c.args.c)) (λ r p. search rules))
      | in-4 w ↦ rotation4 is w.answered-is w.out-is _ _ w.in-4.is (w.of_none-in-4.ensures (given (from_axis_angle4 (vector3 c.args.x c.args.y c.args.z) c.args.s c.args.c)) (λ r p. search rules))
      | in_default w ↦ no_rotation is w.answered-is w.out-is _ _ (λ e. omega arith) (λ e. omega arith)
    ]
