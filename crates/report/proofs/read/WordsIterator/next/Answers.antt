-- The word is what stands between the blanks. Assumes nothing.
use Rattle.std.proofs.Common.{sym, refl, rules, ◌∙◌, eqb-true}
use borrow.Author.Tests.{eqb-false}
use Rattle.report.proofs.Reading.{word_ends, word_next, word_less}
use Rattle.report.proofs.read.WordsIterator.next.Goals as goal

pub returns-then-is_empty-clause-steps : goal.returns-then-is_empty-clause-steps
returns-then-is_empty-clause-steps c = word_ends _ _ _ _ _ _ c.blanks.ensures.is refl c.others.ensures.is c.split_at.ensures.front c.split_at.ensures.back (eqb-true _ 0 (sym c.is_empty.ensures ∙ c.if-is_empty.true))

pub returns-else-is_empty-clause-steps : goal.returns-else-is_empty-clause-steps
returns-else-is_empty-clause-steps c = word_next _ _ _ _ _ _ c.blanks.ensures.is refl c.others.ensures.is c.split_at.ensures.front c.split_at.ensures.back (eqb-false _ 0 (sym c.is_empty.ensures ∙ c.if-is_empty.false))

pub returns-else-is_empty-clause-goes : goal.returns-else-is_empty-clause-goes
returns-else-is_empty-clause-goes c = let less = word_less _ _ _ _ _ _ c.blanks.ensures.is refl c.others.ensures.is c.split_at.ensures.front c.split_at.ensures.back (eqb-false _ 0 (sym c.is_empty.ensures ∙ c.if-is_empty.false)) in search (less, rules)
