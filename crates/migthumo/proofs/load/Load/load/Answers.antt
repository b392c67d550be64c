-- The test of the length decides between the refusal and the matrix. Assumes nothing.
use Rattle.std.proofs.Common.{ap, sym, ◌∙◌}
use Rattle.vector.specs.Refusals.{given}
use Rattle.migthumo.proofs.Left.{wrong, right}
use Rattle.migthumo.proofs.load.Load.load.Goals as goal

pub returns-then-s-COUNT : goal.returns-then-s-COUNT
returns-then-s-COUNT g c = wrong _ _ _ _ (λ e. c.if-s-COUNT.true (e ∙ sym c.COUNT.ensures))

pub returns : goal.returns
returns g c = right _ _ _ _ _ (c.if-s-COUNT.false ∙ c.COUNT.ensures) (ap given c.read.ensures)
