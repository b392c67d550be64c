-- Laws of a sign and a magnitude read as a whole number, products, sums, differences and equality; and of a number's sign as a factor.
-- Assumes nothing.
use mathlib.Core.Path.{◌≡◌, refl, sym, ap, ◌∙◌}
use mathlib.Core.Bool.{Bool, true, false, not}
use Prim.Native.Nat.{ℕ, zero, suc, ◌+◌, ◌-◌, ◌*◌, ◌≤◌}
use native.Mathlib.Nat.{one-mul}
use native.Mathlib.Omega.{arith}
use lib.IntN.{ℤ, pos, negsuc, neg_ℤ, ◌+ℤ◌, ◌*ℤ◌, nat_abs, neg_ℤ-neg_ℤ, neg_ℤ-+ℤ, +ℤ-neg_ℤ_cancel, pos-ne-negsuc}
use lib.Ieee.{unlike}
use Rattle.whole.proofs.Ring.{neg_mul, mul_neg, neg_mul_neg, abs_neg, abs_mul}
use Rattle.exact.specs.Value.{signed}

-- the magnitude is the one given
pub abs_signed : (s : Bool) (n : ℕ) → nat_abs (signed s n) ≡ n
abs_signed true n = abs_neg (pos n)
abs_signed false n = refl

-- the other sign is the negative
pub signed_not : (s : Bool) (n : ℕ) → signed (not s) n ≡ neg_ℤ (signed s n)
signed_not true n = sym (neg_ℤ-neg_ℤ (pos n))
signed_not false n = refl

-- the sign of a product
pub signed_mul : (s t : Bool) (a b : ℕ) → signed (unlike s t) (a * b) ≡ signed s a *ℤ signed t b
signed_mul true true a b = sym (neg_mul_neg (pos a) (pos b))
signed_mul true false a b = sym (neg_mul (pos a) (pos b))
signed_mul false true a b = sym (mul_neg (pos a) (pos b))
signed_mul false false a b = refl

-- a factor with no sign
pub signed_scale : (s : Bool) (a b : ℕ) → signed s (a * b) ≡ signed s a *ℤ pos b
signed_scale true a b = sym (neg_mul (pos a) (pos b))
signed_scale false a b = refl

-- like signs: the magnitudes are added
pub signed_add : (s : Bool) (a b : ℕ) → signed s (a + b) ≡ signed s a +ℤ signed s b
signed_add true a b = neg_ℤ-+ℤ (pos a) (pos b)
signed_add false a b = refl

-- a difference of natural numbers, as a whole number
difference : (a b : ℕ) → b ≤ a → pos (a - b) ≡ pos a +ℤ neg_ℤ (pos b)
difference a b h = let e : a - b + b ≡ a = omega arith in sym (+ℤ-neg_ℤ_cancel (pos (a - b)) (pos b)) ∙ ap (λ (n : ℕ). pos n +ℤ neg_ℤ (pos b)) e

-- unlike signs: the difference of the magnitudes, with the sign of the larger
pub signed_sub : (s : Bool) (a b : ℕ) → b ≤ a → signed s (a - b) ≡ signed s a +ℤ signed (not s) b
signed_sub true a b h = ap neg_ℤ (difference a b h) ∙ neg_ℤ-+ℤ (pos a) (neg_ℤ (pos b)) ∙ ap (λ (z : ℤ). neg_ℤ (pos a) +ℤ z) (neg_ℤ-neg_ℤ (pos b))
signed_sub false a b h = difference a b h

-- the magnitude 0 is 0, with either sign
pub signed_zero : (s : Bool) (n : ℕ) → n ≡ 0 → signed s n ≡ pos 0
signed_zero true n h = ap (λ (n : ℕ). neg_ℤ (pos n)) h
signed_zero false n h = ap pos h

-- equal numbers have equal magnitudes
pub signed_magnitude : (s t : Bool) (a b : ℕ) → signed s a ≡ signed t b → a ≡ b
signed_magnitude s t a b h = sym (abs_signed s a) ∙ ap nat_abs h ∙ abs_signed t b

-- equal numbers of unlike signs are 0
pub signed_opposite : (a b : ℕ) → pos a ≡ neg_ℤ (pos b) → a ≡ 0
signed_opposite zero b h = refl
signed_opposite (suc a) zero h = ap nat_abs h
signed_opposite (suc a) (suc b) h = absurd (pos-ne-negsuc (suc a) b h)

-- ---- 1 or -1
-- the sign of a number, as a factor; that of 0 is 1
abbrev pub sign_of : ℤ → ℤ
sign_of (pos n) = pos 1
sign_of (negsuc n) = negsuc 0

-- a sign is its own reciprocal
pub sign_square : (b : ℤ) → sign_of b *ℤ sign_of b ≡ pos 1
sign_square (pos n) = refl
sign_square (negsuc n) = refl

-- a number is its sign times its magnitude
pub sign_split : (b : ℤ) → b ≡ sign_of b *ℤ pos (nat_abs b)
sign_split (pos n) = ap pos (sym (one-mul n))
sign_split (negsuc n) = ap (λ (m : ℕ). neg_ℤ (pos m)) (sym (one-mul (suc n)))

-- a number times its sign is its magnitude
pub sign_times : (b : ℤ) → sign_of b *ℤ b ≡ pos (nat_abs b)
sign_times (pos n) = ap pos (one-mul n)
sign_times (negsuc n) = ap pos (one-mul (suc n))

-- a sign has magnitude 1
pub abs_sign : (b : ℤ) → nat_abs (sign_of b) ≡ 1
abs_sign (pos n) = refl
abs_sign (negsuc n) = refl

-- a sign as a factor leaves the magnitude
pub abs_sign_mul : (b a : ℤ) → nat_abs (sign_of b *ℤ a) ≡ nat_abs a
abs_sign_mul b a = abs_mul (sign_of b) a ∙ ap (λ (n : ℕ). n * nat_abs a) (abs_sign b) ∙ one-mul (nat_abs a)
