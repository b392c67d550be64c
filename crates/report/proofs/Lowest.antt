-- Divided by their greatest common divisor two numbers have the same ratio, and no number but 1 divides both.
-- Assumes nothing.
use Rattle.std.proofs.Common.{◌≡◌, ℕ, zero, suc, ◌*◌, ◌/◌, ◌%◌, ◌<◌, ◌≤◌, Bool, true, false, cond, eqb, sym, refl, ap, ◌∙◌, subst, mod-lt, mul_assoc, mul_comm, arith, eqb-true}
use Prim.Native.Nat.{◌∣◌}
use native.Mathlib.Nat.{dvd_refl, dvd-zero, dvd-mod_iff, eq-zero_of_zero-dvd, eq-one_of_dvd-one, pos_of_dvd_of_pos, div-mul_cancel, mul-dvd-mul_right, dvd_of_mul-dvd-mul_right}
use borrow.Author.Tests.{eqb-false}
use Rattle.report.specs.Report.{euclid, gcd, reduced, LowestTerms}

-- g divides both numbers, and whatever divides both divides g
record Greatest (a b g : ℕ) : Type 0 where
  left : g ∣ a
  right : g ∣ b
  most : (d : ℕ) → d ∣ a → d ∣ b → d ∣ g

-- Euclid's steps find it, where there are enough of them
greatest : (k a b : ℕ) → b ≤ k → Greatest a b (euclid k a b)
unfolding euclid
greatest zero a b few =
    let none : b ≡ 0 = omega arith in
    record { left = dvd_refl a; right = rw none (dvd-zero a); most = λ d l r. l }
greatest (suc k) a b few = by_test (λ h. greatest k b (a % b) h) (eqb b 0) refl
  where
    by_test : (a % b ≤ k → Greatest b (a % b) (euclid k b (a % b))) → (t : Bool) → eqb b 0 ≡ t → Greatest a b (cond t a (euclid k b (a % b)))
    by_test less true e =
        let none : b ≡ 0 = eqb-true b 0 e in
        record { left = dvd_refl a; right = rw none (dvd-zero a); most = λ d l r. l }
    by_test turn false e =
        let less : a % b < b = mod-lt a (omega (arith, eqb-false b 0 e)) in
        let rest = turn (omega arith) in
        record { left = (dvd-mod_iff _ rest.left).0 rest.right; right = rest.left; most = λ d l r. rest.most d r ((dvd-mod_iff _ r).1 l) }

-- it is zero of two zeros alone
pub gcd_zero : (a b : ℕ) → gcd a b ≡ 0 → (a ≡ 0) × (b ≡ 0)
gcd_zero a b none =
    let g = greatest b a b (omega arith) in
    (eq-zero_of_zero-dvd (rw none at g.left), eq-zero_of_zero-dvd (rw none at g.right))

-- the fraction is in lowest terms
pub lowest_terms : LowestTerms
unfolding reduced
lowest_terms a b some =
    let g = greatest b a b (omega arith) in
    let d = gcd a b in
    let over : a / d * d ≡ a = div-mul_cancel _ g.left in
    let under : b / d * d ≡ b = div-mul_cancel _ g.right in
    let positive : 0 < d = pos_of_dvd_of_pos g.right some in
    record {
      value = sym (ap (λ (n : ℕ). a / d * n) under) ∙ ap (λ (n : ℕ). a / d * n) (mul_comm (b / d) d) ∙ sym (mul_assoc (a / d) d (b / d)) ∙ ap (λ (n : ℕ). n * (b / d)) over;
      coprime = λ e l r. one e d positive (g.most (e * d) (rw over at (mul-dvd-mul_right _ l d)) (rw under at (mul-dvd-mul_right _ r d)));
    }
  where
    one : (e d : ℕ) → 0 < d → e * d ∣ d → e ≡ 1
    one e d positive h =
        let is : d ≡ 1 * d = omega arith in
        eq-one_of_dvd-one (dvd_of_mul-dvd-mul_right {k = d} e {n = 1} positive (subst (λ (n : ℕ). e * d ∣ n) is h))
