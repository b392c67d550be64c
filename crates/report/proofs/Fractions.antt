-- The loop that finds the greatest common divisor, and the text of a fraction.
-- Assumes nothing.
use Rattle.std.proofs.Common.{◌≡◌, ℕ, zero, suc, ◌/◌, ◌%◌, ◌^◌, ◌<◌, ◌≤◌, cond, [], ◌++◌, ℤ, pos, ◌*ℤ◌, nat_abs, sym, ◌∙◌, append-nil, mod-lt, arith, eq-eqb, ne_eqb}
use native.Mathlib.Nat.{zero-div}
use lib.Signed.{mag, lt_z}
use Rattle.engine.proofs.Signed.{back}
use Rattle.report.specs.declared.fraction.Ratio.{Ratio}
use Rattle.report.specs.Text.{text, decimal}
use Rattle.report.specs.Report.{ratio, euclid, gcd, reduced, ratio_text, fraction}
use Rattle.report.proofs.Signs.{held}
use Rattle.report.proofs.Lowest.{gcd_zero}

-- ---- the greatest common divisor

-- where the loop stands: so many steps, which are enough, come to the same
pub record Steps (a b x y : ℕ) : Type 0 where
  pub left : ℕ
  pub enough : y ≤ left
  pub same : euclid left x y ≡ gcd a b

pub steps_turn : {a b x y : ℕ} → (y ≡ 0 → ⊥) → Steps a b x y → Steps a b y (x % y)
unfolding euclid
steps_turn {a} {b} {x} {y} some st = step st.left st.enough st.same
  where
    step : (k : ℕ) → y ≤ k → euclid k x y ≡ gcd a b → Steps a b y (x % y)
    step zero h e = absurd (omega arith)
    step (suc k) h e =
        let less : x % y < y = mod-lt x (omega arith) in
        record { left = k; enough = omega arith; same = rw (ne_eqb y 0 some) at e }

pub steps_end : {a b x y : ℕ} → y ≡ 0 → Steps a b x y → x ≡ gcd a b
unfolding euclid
steps_end {a} {b} {x} {y} none st = step st.left st.same
  where
    step : (k : ℕ) → euclid k x y ≡ gcd a b → x ≡ gcd a b
    step zero e = e
    step (suc k) e = rw (eq-eqb y 0 none) at e

-- ---- lowest terms

-- there is a common divisor
pub over_common : (a b g : ℕ) → g ≡ gcd a b → ratio (a / g) (b / g) ≡ reduced a b
unfolding reduced
over_common a b g is = rw is

-- there is none but for two zeros
pub over_nothing : (a b g : ℕ) → g ≡ gcd a b → g ≡ 0 → ratio a b ≡ reduced a b
unfolding reduced
over_nothing a b g is none =
    let zeros = gcd_zero a b (sym is ∙ none) in
    let nothing : 0 / gcd 0 0 ≡ 0 = zero-div (gcd 0 0) in
    rw (zeros.0, zeros.1, nothing)

-- ---- the text

-- over 1
pub alone : (q : Ratio) → q.under ≡ 1 → decimal q.over ≡ ratio_text q
unfolding ratio_text
alone q e = sym (rw (eq-eqb q.under 1 e, append-nil))

-- over another number
pub over_under : (q : Ratio) → (q.under ≡ 1 → ⊥) → decimal q.over ++ (text "/" ++ decimal q.under) ≡ ratio_text q
unfolding ratio_text
over_under q other = sym (rw (ne_eqb q.under 1 other))

-- ---- the whole fraction

pub fraction_text : (k s : ℤ) → mag k < 2 ^ 63 → mag s < 2 ^ 63 → (a b : ℕ) (q : Ratio) → a ≡ nat_abs (held k) → b ≡ nat_abs (held s) → q ≡ reduced a b
    → cond (lt_z (held k *ℤ held s) (pos 0)) (text "-") [] ++ ratio_text q ≡ fraction k s
unfolding fraction
fraction_text k s k-fits s-fits a b q over under is = rw (is, over, under, back k k-fits, back s s-fits)
