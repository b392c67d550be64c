-- A word without digits, with another byte or with a larger number is none; else the magnitude gets its sign. Assumes nothing.
use Rattle.std.proofs.Common.{sym, ◌∙◌, eqb-true}
use borrow.Author.Tests.{eqb-false}
use Rattle.report.proofs.Signs.{no_digits, no_number, too_large, fitting, read_negative, read_other}
use Rattle.report.proofs.read.entry.Goals.{then-is_empty-via-then-is_empty, then-is_empty-via-else-is_empty+then-not-all_digits}
use Rattle.report.proofs.read.entry.Goals as goal

pub returns-then-is_empty : goal.returns-then-is_empty
returns-then-is_empty c =
    elim c.then-is_empty.branch [
      | then-is_empty-via-then-is_empty w ↦ no_digits _ _ c.digits-digits.ensures (eqb-true _ 0 (sym c.is_empty.ensures ∙ w.if-is_empty.true))
      | then-is_empty-via-else-is_empty+then-not-all_digits w ↦ no_number _ _ c.digits-digits.ensures (sym w.all_digits.ensures ∙ w.if-not-all_digits.true)
    ]

pub returns-then-magnitude-gt-LARGEST : goal.returns-then-magnitude-gt-LARGEST
returns-then-magnitude-gt-LARGEST c = too_large _ _ c.digits-digits.ensures _ c.capped-magnitude.ensures c.if-magnitude-gt-LARGEST.true

pub returns-then-negative : goal.returns-then-negative
returns-then-negative c =
    let some = eqb-false _ 0 (sym c.is_empty.ensures ∙ c.if-is_empty.false) in
    let every = sym c.all_digits.ensures ∙ c.if-not-all_digits.false in (
      fitting _ _ c.digits-digits.ensures _ c.capped-magnitude.ensures some every c.if-magnitude-gt-LARGEST.false,
      read_negative _ _ c.digits-digits.ensures _ c.capped-magnitude.ensures some every c.if-magnitude-gt-LARGEST.false (sym c.negative.ensures ∙ c.if-negative.true),
    )

pub returns-else-negative : goal.returns-else-negative
returns-else-negative c =
    let some = eqb-false _ 0 (sym c.is_empty.ensures ∙ c.if-is_empty.false) in
    let every = sym c.all_digits.ensures ∙ c.if-not-all_digits.false in (
      fitting _ _ c.digits-digits.ensures _ c.capped-magnitude.ensures some every c.if-magnitude-gt-LARGEST.false,
      read_other _ _ c.digits-digits.ensures _ c.capped-magnitude.ensures some every c.if-magnitude-gt-LARGEST.false (sym c.negative.ensures ∙ c.if-negative.false),
    )
