-- Each answer is what the tests that led to it found. Assumes nothing.
use Rattle.std.proofs.Common.{sym, ◌∙◌}
use Rattle.report.proofs.Lines.{no_word, no_order_lem, counted_just, counted_all, other_follows, entries_follow}
use Rattle.report.proofs.line.read_line.Goals as goal

pub returns-in_default : goal.returns-in_default
returns-in_default c = no_word _ (rw c.of-words.ensures at c.in_default.ensures.steps.0)

pub returns-in_default-of : goal.returns-in_default-of
returns-in_default-of c = no_order_lem _ _ _ (rw c.of-words.ensures at c.in-Some.ensures.steps) c.in_default-of.ensures

pub returns-then-total-n : goal.returns-then-total-n
returns-then-total-n c =
    other_follows _ _ _ (rw c.of-words.ensures at c.in-Some.ensures.steps) c.in-Some-of.order c.in-Some-of.ensures
    (λ e. c.if-total-n.true (c.total.ensures ∙ counted_just _ _ (e ∙ rw c.size-n.ensures)))

pub returns : goal.returns
returns c =
    c.entries.ensures
    ∙ entries_follow _ _ _ (rw c.of-words.ensures at c.in-Some.ensures.steps) c.in-Some-of.order c.in-Some-of.ensures (counted_all _ _ (sym c.total.ensures ∙ c.if-total-n.false) ∙ rw c.size-n.ensures)
