-- The report of a matrix, put together from its texts.
-- Assumes nothing.
use Rattle.std.proofs.Common.{◌≡◌, ℕ, ◌^◌, ◌<◌, Bool, true, false, eqb, ◌++◌, ℤ, pos, nat_abs, sym, refl, ap, ◌∙◌, w64, to_z, of_z, eq-eqb, ne_eqb}
use denote.Enum.Bare.{sameb}
use lib.Signed.{mag}
use Rattle.whole.specs.Matrix.{Matrix}
use Rattle.whole.proofs.Ring.{abs_zero}
use Rattle.engine.specs.Engine.{is_one_bit}
use Rattle.engine.proofs.Signed.{back}
use Rattle.report.specs.declared.write.Page.{Page}
use Rattle.report.specs.declared.grid.Order.{Order}
use Rattle.report.specs.declared.grid.Order.TheVariants.{Two, Three, Four}
use Rattle.report.specs.contracts.grid.Order.{the_type}
use Rattle.report.specs.Grid.{size}
use Rattle.report.specs.Text.{text, whole}
use Rattle.report.specs.Written.{Adds}
use Rattle.report.specs.Report.{rows_of, exactness, comes_back, matrix_head, sum_head, refusal2, inverse_report, sum_report}
use Rattle.report.specs.declared.totals.Verdict.TheVariants.{ComesBack, Rounded, Singular}
use Rattle.report.specs.Verdict.{sum_verdict, sum_line}
use Rattle.report.proofs.Signs.{held}
use Rattle.report.proofs.Writing.{named}

-- the test of a sum as the code holds it
none : (s : ℤ) → mag s < 2 ^ 63 → of_z w64 s ≡ 0 → eqb (nat_abs s) 0 ≡ true
none s fits zero = eq-eqb (nat_abs s) 0 (ap nat_abs (sym (back s fits) ∙ ap (to_z w64) zero))

not_none : (s : ℤ) → (of_z w64 s ≡ 0 → ⊥) → eqb (nat_abs s) 0 ≡ false
not_none s some = ne_eqb (nat_abs s) 0 (λ e. some (ap (of_z w64) (abs_zero s e)))

module _ {p q : Page} (n : ℕ) (m : Matrix) where
  -- the inverse, from the sum as the code holds it
  pub inverse_text : (s : ℤ) → mag s < 2 ^ 63 → (k : ℕ) (exact : Bool) → k ≡ nat_abs (held s) → exact ≡ is_one_bit k
      → Adds p (exactness exact ++ rows_of true n m (held s) ++ comes_back n exact) q → Adds p (inverse_report n m s) q
  unfolding inverse_report
  inverse_text s fits k exact magnitude tested w = named (rw (tested, magnitude, back s fits)) w

  module _ (s : ℤ) (fits : mag s < 2 ^ 63) where
    -- a sum of zero
    pub zero_text : of_z w64 s ≡ 0
        → Adds p (matrix_head ++ rows_of false n m (held s) ++ sum_head ++ whole (held s) ++ text "\n" ++ refusal2) q
        → Adds p (sum_report n m s) q
    unfolding sum_report
    zero_text zero w = rw (none s fits zero) (named (rw (back s fits)) w)

    -- any other sum
    pub inverse_follows : (of_z w64 s ≡ 0 → ⊥)
        → Adds p (matrix_head ++ rows_of false n m (held s) ++ sum_head ++ whole (held s) ++ text "\n" ++ inverse_report n m (held s)) q
        → Adds p (sum_report n m s) q
    unfolding sum_report
    inverse_follows some w = rw (not_none s some) (named (rw (back s fits)) w)

module _ {p q : Page} (n : ℕ) (s : ℤ) (fits : mag s < 2 ^ 63) where
  -- the verdict by the sum: refusal 2
  pub zero_line : of_z w64 s ≡ 0 → Adds p refusal2 q → Adds p (sum_line n s) q
  unfolding sum_line
  zero_line zero w = rw (none s fits zero) w

  -- or whether what is moved comes back
  pub other_line : (of_z w64 s ≡ 0 → ⊥) → (k : ℕ) (exact : Bool) → k ≡ nat_abs (held s) → exact ≡ is_one_bit k → Adds p (comes_back n exact) q → Adds p (sum_line n s) q
  unfolding sum_line
  other_line some k exact magnitude tested w = rw (not_none s some) (named (rw (tested, magnitude, back s fits)) w)

-- the kind of verdict by the sum
module _ (s : ℤ) (fits : mag s < 2 ^ 63) where
  pub is_singular : of_z w64 s ≡ 0 → Singular ≡ sum_verdict s
  unfolding sum_verdict
  is_singular zero = rw (none s fits zero)

  module _ (some : of_z w64 s ≡ 0 → ⊥) (k : ℕ) (exact : Bool) (magnitude : k ≡ nat_abs (held s)) (tested : exact ≡ is_one_bit k) where
    one : exact ≡ is_one_bit (nat_abs s)
    one = tested ∙ ap is_one_bit (magnitude ∙ ap nat_abs (back s fits))

    pub is_back : exact ≡ true → ComesBack ≡ sum_verdict s
    unfolding sum_verdict
    is_back e = rw (not_none s some, sym one ∙ e)

    pub is_rounded : exact ≡ false → Rounded ≡ sum_verdict s
    unfolding sum_verdict
    is_rounded e = rw (not_none s some, sym one ∙ e)

-- the test of an order for 4
pub four_tested : (o : Order) → sameb the_type o Four ≡ eqb (size o) 4
four_tested Two = refl
four_tested Three = refl
four_tested Four = refl

-- the rows of a matrix need no sum
pub same_rows : (n : ℕ) (m : Matrix) (s : ℤ) → rows_of false n m (pos 0) ≡ rows_of false n m s
unfolding rows_of
same_rows n m s = refl
