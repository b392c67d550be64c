-- The test on the determinant decides between the refusal and the inverse. Assumes nothing.
use Rattle.std.proofs.Common.{ap, ◌∙◌}
use Rattle.matrix.proofs.Singular.{refused_singular, inverted}
use Rattle.matrix.proofs.inverse.Invert.invert.Goals as goal

pub returns-then-det : goal.returns-then-det
returns-then-det g c = refused_singular _ _ c.determinant-det.ensures _ c.if-det.true

pub returns : goal.returns
returns g c = let det = c.determinant-det.ensures in inverted _ _ det c.if-det.false (c.inverse_by.ensures ∙ ap (g.Self.Invert.inverse c.args.self) det)
