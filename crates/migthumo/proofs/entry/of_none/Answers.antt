-- The test of the length, then what was made, decide; a refusal writes nothing. Assumes nothing.
use Rattle.std.proofs.Common.{rules, sym, ◌∙◌}
use Rattle.migthumo.proofs.Left.{left_wrong, left_right, left_refused, left_made}
use Rattle.migthumo.proofs.entry.of_none.Goals as goal

pub returns-then-out-COUNT : goal.returns-then-out-COUNT
returns-then-out-COUNT g c o made = left_wrong _ _ _ _ _ (λ e. c.if-out-COUNT.true (e ∙ sym c.COUNT.ensures))

pub returns-in_err-make : goal.returns-in_err-make
returns-in_err-make g c o made = left_right _ _ _ (c.if-out-COUNT.false ∙ c.COUNT.ensures) (left_refused _ _ (made _ c.make.ensures) _ c.in_err-make.was (search rules))

pub returns : goal.returns
returns g c o made = left_right _ _ _ (c.if-out-COUNT.false ∙ c.COUNT.ensures) (left_made _ _ (made _ c.make.ensures) c.in_ok-make.was c.put.ensures)
