-- The parities: 1 at the even numbers, -1 at the odd.
-- Assumes nothing.
use mathlib.Core.Path.{◌≡◌, refl, sym, ap, ◌∙◌}
use Prim.Native.Nat.{ℕ, zero, suc, ◌+◌, ◌*◌}
use native.Mathlib.Nat.{zero-add, suc-add, one-mul as natural_one_mul}
use native.Mathlib.Omega.{arith}
use lib.IntN.{ℤ, pos, neg_ℤ, ◌*ℤ◌, nat_abs}
use Rattle.whole.proofs.Ring.{one_mul, neg_mul, neg_mul_neg, abs_neg, abs_mul, NonZero}
use Rattle.whole.specs.Order.{parity}

-- the parity of a sum
pub parity_add : (a b : ℕ) → parity (a + b) ≡ parity a *ℤ parity b
parity_add zero b = ap parity (zero-add b) ∙ sym (one_mul (parity b))
parity_add (suc a) b = ap parity (suc-add a b) ∙ ap neg_ℤ (parity_add a b) ∙ sym (neg_mul (parity a) (parity b))

-- a parity undoes itself
pub parity_unit : (k : ℕ) → parity k *ℤ parity k ≡ pos 1
parity_unit zero = refl
parity_unit (suc k) = neg_mul_neg (parity k) (parity k) ∙ parity_unit k

-- a parity has magnitude 1
pub parity_abs : (k : ℕ) → nat_abs (parity k) ≡ 1
parity_abs zero = refl
parity_abs (suc k) = abs_neg (parity k) ∙ parity_abs k

-- a parity is not 0
pub parity_nonzero : (k : ℕ) → NonZero (parity k)
parity_nonzero k = omega (arith, parity_abs k)

-- a parity as a factor leaves the magnitude
pub parity_keeps : (k : ℕ) (z : ℤ) → nat_abs (parity k *ℤ z) ≡ nat_abs z
parity_keeps k z = abs_mul (parity k) z ∙ ap (λ (n : ℕ). n * nat_abs z) (parity_abs k) ∙ natural_one_mul (nat_abs z)
