-- The sentence of the tests. Assumes nothing.
use Rattle.std.proofs.Common.{sym, ◌∙◌}
use Rattle.report.proofs.Whole.{four_tested}
use Rattle.report.specs.Report.{comes_back}
use Rattle.report.proofs.layout.comes_back.Goals as goal

pub returns-then-not-exact : goal.returns-then-not-exact
unfolding comes_back
returns-then-not-exact c = rw c.if-not-exact.true c.text.ensures

pub returns-then-eq : goal.returns-then-eq
unfolding comes_back
returns-then-eq c = rw (c.if-not-exact.false, sym (four_tested c.args.order) ∙ sym c.eq.ensures ∙ c.if-eq.true) c.text-then-eq.ensures

pub returns-else-eq : goal.returns-else-eq
unfolding comes_back
returns-else-eq c = rw (c.if-not-exact.false, sym (four_tested c.args.order) ∙ sym c.eq.ensures ∙ c.if-eq.false) c.text-else-eq.ensures
