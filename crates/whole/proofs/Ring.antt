-- The laws of the ring of whole numbers that lib.IntN lacks: signs, regrouping, distributivity, magnitudes and cancellation.
-- Assumes nothing.
use mathlib.Core.Path.{◌≡◌, refl, sym, ap, ap₂, ◌∙◌, subst}
use mathlib.Core.Bool.{Bool, true, false, cond}
use Prim.Native.Nat.{ℕ, zero, suc, ◌+◌, ◌-◌, ◌*◌, ◌≤◌, ◌<◌}
use native.Mathlib.Nat.{le_trans, le_of_eq, lt_irrefl, zero-lt-suc, zero-mul, mul_assoc, mul-pos, mul-le-mul, eq_of_mul-eq-mul_right}
use native.Mathlib.Omega.{arith}
use lib.Dec.{T, ltb, ltb→lt}
use lib.IntN.{ℤ, pos, negsuc, neg_ℤ, ◌+ℤ◌, ◌*ℤ◌, ◌-ℤ◌, nat_abs, sub_ℕ, one, pred_ℤ, *ℤ-one, *ℤ_comm, zero-*ℤ, neg_ℤ-neg_ℤ, +ℤ_idl, +ℤ_assoc, +ℤ_comm, +ℤ_invr, -ℤ-+ℤ_cancel, suc_ℤ-+ℤ, pred_ℤ-+ℤ, suc_ℤ-*ℤ, pred_ℤ-*ℤ}

-- ---- signs
-- a minus comes out of the left factor
pub neg_mul : (a b : ℤ) → neg_ℤ a *ℤ b ≡ neg_ℤ (a *ℤ b)
neg_mul (pos zero) b = zero-*ℤ b ∙ ap neg_ℤ (sym (zero-*ℤ b))
neg_mul (pos (suc n)) (pos b) = refl
neg_mul (pos (suc n)) (negsuc b) = sym (neg_ℤ-neg_ℤ (pos (suc n * suc b)))
neg_mul (negsuc n) (pos b) = sym (neg_ℤ-neg_ℤ (pos (suc n * b)))
neg_mul (negsuc n) (negsuc b) = refl

-- a minus comes out of the right factor
pub mul_neg : (a b : ℤ) → a *ℤ neg_ℤ b ≡ neg_ℤ (a *ℤ b)
mul_neg a b = *ℤ_comm a (neg_ℤ b) ∙ neg_mul b a ∙ ap neg_ℤ (*ℤ_comm b a)

-- two minuses cancel
pub neg_mul_neg : (a b : ℤ) → neg_ℤ a *ℤ neg_ℤ b ≡ a *ℤ b
neg_mul_neg a b = neg_mul a (neg_ℤ b) ∙ ap neg_ℤ (mul_neg a b) ∙ neg_ℤ-neg_ℤ (a *ℤ b)

-- ---- one
-- 1 as the right factor changes nothing
pub mul_one : (a : ℤ) → a *ℤ pos 1 ≡ a
unfolding one
mul_one a = *ℤ-one a

-- 1 as the left factor changes nothing
pub one_mul : (a : ℤ) → pos 1 *ℤ a ≡ a
one_mul a = *ℤ_comm (pos 1) a ∙ mul_one a

-- ---- regrouping
-- the product is associative where the first two factors are not negative
assoc_naturals : (a b : ℕ) (c : ℤ) → (pos a *ℤ pos b) *ℤ c ≡ pos a *ℤ (pos b *ℤ c)
assoc_naturals a b (pos c) = ap pos (mul_assoc a b c)
assoc_naturals a b (negsuc c) = ap (λ (n : ℕ). neg_ℤ (pos n)) (mul_assoc a b (suc c)) ∙ sym (mul_neg (pos a) (pos (b * suc c)))

-- the product is associative where the first factor is not negative
assoc_natural : (a : ℕ) (b c : ℤ) → (pos a *ℤ b) *ℤ c ≡ pos a *ℤ (b *ℤ c)
assoc_natural a (pos b) c = assoc_naturals a b c
assoc_natural a (negsuc b) c =
    neg_mul (pos (a * suc b)) c
    ∙ ap neg_ℤ (assoc_naturals a (suc b) c)
    ∙ sym (mul_neg (pos a) (pos (suc b) *ℤ c))
    ∙ ap (λ (z : ℤ). pos a *ℤ z) (sym (neg_mul (pos (suc b)) c))

-- the product is associative
pub *ℤ-assoc : (a b c : ℤ) → (a *ℤ b) *ℤ c ≡ a *ℤ (b *ℤ c)
*ℤ-assoc (pos a) b c = assoc_natural a b c
*ℤ-assoc (negsuc a) b c =
    ap (λ (z : ℤ). z *ℤ c) (neg_mul (pos (suc a)) b)
    ∙ neg_mul (pos (suc a) *ℤ b) c
    ∙ ap neg_ℤ (assoc_natural (suc a) b c)
    ∙ sym (neg_mul (pos (suc a)) (b *ℤ c))

-- the first two of three factors change places
pub *ℤ-left-comm : (a b c : ℤ) → a *ℤ (b *ℤ c) ≡ b *ℤ (a *ℤ c)
*ℤ-left-comm a b c = sym (*ℤ-assoc a b c) ∙ ap (λ (z : ℤ). z *ℤ c) (*ℤ_comm a b) ∙ *ℤ-assoc b a c

-- the first two of three summands change places
pub +ℤ-left-comm : (a b c : ℤ) → a +ℤ (b +ℤ c) ≡ b +ℤ (a +ℤ c)
+ℤ-left-comm a b c = sym (+ℤ_assoc a b c) ∙ ap (λ (z : ℤ). z +ℤ c) (+ℤ_comm a b) ∙ +ℤ_assoc b a c

-- the last two of three summands change places
pub +ℤ-right-comm : (a b c : ℤ) → (a +ℤ b) +ℤ c ≡ (a +ℤ c) +ℤ b
+ℤ-right-comm a b c = +ℤ_assoc a b c ∙ ap (λ (z : ℤ). a +ℤ z) (+ℤ_comm b c) ∙ sym (+ℤ_assoc a c b)

-- ---- distributivity
-- distributivity at 0
add_mul_zero : (b c : ℤ) → (pos zero +ℤ b) *ℤ c ≡ pos zero *ℤ c +ℤ b *ℤ c
add_mul_zero b c =
    ap (λ (z : ℤ). z *ℤ c) (+ℤ_idl b)
    ∙ sym (+ℤ_idl (b *ℤ c))
    ∙ ap (λ (z : ℤ). z +ℤ b *ℤ c) (sym (zero-*ℤ c))

-- distributivity carries over to the number below
add_mul_down : (a b c : ℤ) → (a +ℤ b) *ℤ c ≡ a *ℤ c +ℤ b *ℤ c → (pred_ℤ a +ℤ b) *ℤ c ≡ pred_ℤ a *ℤ c +ℤ b *ℤ c
add_mul_down a b c h =
    ap (λ (z : ℤ). z *ℤ c) (pred_ℤ-+ℤ a b)
    ∙ pred_ℤ-*ℤ (a +ℤ b) c
    ∙ ap (λ (z : ℤ). z -ℤ c) h
    ∙ +ℤ-right-comm (a *ℤ c) (b *ℤ c) (neg_ℤ c)
    ∙ ap (λ (z : ℤ). z +ℤ b *ℤ c) (sym (pred_ℤ-*ℤ a c))

-- a factor on the right goes into a sum
pub add_mul : (a b c : ℤ) → (a +ℤ b) *ℤ c ≡ a *ℤ c +ℤ b *ℤ c
add_mul (pos zero) b c = add_mul_zero b c
add_mul (pos (suc n)) b c =
    ap (λ (z : ℤ). z *ℤ c) (suc_ℤ-+ℤ (pos n) b)
    ∙ suc_ℤ-*ℤ (pos n +ℤ b) c
    ∙ ap (λ (z : ℤ). z +ℤ c) (add_mul (pos n) b c)
    ∙ +ℤ-right-comm (pos n *ℤ c) (b *ℤ c) c
    ∙ ap (λ (z : ℤ). z +ℤ b *ℤ c) (sym (suc_ℤ-*ℤ (pos n) c))
add_mul (negsuc zero) b c = add_mul_down (pos zero) b c (add_mul_zero b c)
add_mul (negsuc (suc n)) b c = add_mul_down (negsuc n) b c (add_mul (negsuc n) b c)

-- a factor on the left goes into a sum
pub mul_add : (a b c : ℤ) → a *ℤ (b +ℤ c) ≡ a *ℤ b +ℤ a *ℤ c
mul_add a b c = *ℤ_comm a (b +ℤ c) ∙ add_mul b c a ∙ ap₂ (λ (x y : ℤ). x +ℤ y) (*ℤ_comm b a) (*ℤ_comm c a)

-- ---- magnitudes
-- a minus leaves the magnitude
pub abs_neg : (a : ℤ) → nat_abs (neg_ℤ a) ≡ nat_abs a
abs_neg (pos zero) = refl
abs_neg (pos (suc n)) = refl
abs_neg (negsuc n) = refl

-- the magnitude of a product
pub abs_mul : (a b : ℤ) → nat_abs (a *ℤ b) ≡ nat_abs a * nat_abs b
abs_mul (pos a) (pos b) = refl
abs_mul (pos a) (negsuc b) = abs_neg (pos (a * suc b))
abs_mul (negsuc a) (pos b) = abs_neg (pos (suc a * b))
abs_mul (negsuc a) (negsuc b) = refl

-- a product is no larger than the product of the factors' limits
pub abs_mul_le : (a b : ℤ) {A B : ℕ} → nat_abs a ≤ A → nat_abs b ≤ B → nat_abs (a *ℤ b) ≤ A * B
abs_mul_le a b g h = le_trans (le_of_eq (abs_mul a b)) (mul-le-mul g h)

-- only 0 has magnitude 0
pub abs_zero : (a : ℤ) → nat_abs a ≡ 0 → a ≡ pos 0
abs_zero (pos n) h = ap pos h
abs_zero (negsuc n) h = let l : nat_abs (negsuc n) ≤ 0 = le_of_eq h in absurd (omega arith)

-- a difference of naturals is no larger than their sum
abs_difference : (a b : ℕ) → nat_abs (sub_ℕ a b) ≤ a + b
abs_difference a b = by_order (ltb a b) (ltb→lt a b)
  where
    by_order : (c : Bool) → (T c → a < b) → nat_abs (cond c (negsuc (b - suc a)) (pos (a - b))) ≤ a + b
    by_order true h = let l : a < b = h tt in omega arith
    by_order false h = omega arith

-- a sum is no larger than the sum of the magnitudes
pub abs_add : (a b : ℤ) → nat_abs (a +ℤ b) ≤ nat_abs a + nat_abs b
abs_add (pos a) (pos b) = omega arith
abs_add (pos a) (negsuc b) = abs_difference a (suc b)
abs_add (negsuc a) (pos b) = omega (arith, abs_difference b (suc a))
abs_add (negsuc a) (negsuc b) = omega arith

-- ---- zero and not zero
-- a number that is not 0, by its magnitude
abbrev pub NonZero : ℤ → Type 0
NonZero a = 0 < nat_abs a

-- whatever follows from 'is 0' and from 'is not 0' holds
pub zero_or_not : {P : Type 0} (a : ℤ) → (a ≡ pos 0 → P) → (NonZero a → P) → P
zero_or_not (pos zero) f g = f refl
zero_or_not (pos (suc n)) f g = g (zero-lt-suc n)
zero_or_not (negsuc n) f g = g (zero-lt-suc n)

-- no number is 0 and is not 0
pub not_both : (a : ℤ) → a ≡ pos 0 → NonZero a → ⊥
not_both a e h = lt_irrefl 0 (subst NonZero e h)

-- a product of two that are not 0 is not 0
pub nonzero_mul : (a b : ℤ) → NonZero a → NonZero b → NonZero (a *ℤ b)
nonzero_mul a b g h = subst (λ (n : ℕ). 0 < n) (sym (abs_mul a b)) (mul-pos g h)

-- ---- cancellation
-- two numbers whose difference is 0 are equal
pub sub_zero_eq : (a b : ℤ) → a -ℤ b ≡ pos 0 → a ≡ b
sub_zero_eq a b h = sym (-ℤ-+ℤ_cancel a b) ∙ ap (λ (z : ℤ). z +ℤ b) h ∙ +ℤ_idl b

-- a product of naturals is 0 only where a factor is
zero_factor : (a b : ℕ) → a * b ≡ 0 → 0 < b → a ≡ 0
zero_factor a b h p = eq_of_mul-eq-mul_right b p a 0 (h ∙ sym (zero-mul b))

-- a product is 0 only where a factor is
pub no_zero_divisor : (a b : ℤ) → a *ℤ b ≡ pos 0 → NonZero b → a ≡ pos 0
no_zero_divisor a b h p = abs_zero a (zero_factor (nat_abs a) (nat_abs b) (sym (abs_mul a b) ∙ ap nat_abs h) p)

-- a factor that is not 0 cancels
pub mul_cancel : (a b c : ℤ) → NonZero c → a *ℤ c ≡ b *ℤ c → a ≡ b
mul_cancel a b c p h =
    sub_zero_eq a b
    (no_zero_divisor (a -ℤ b) c
    (add_mul a (neg_ℤ b) c
    ∙ ap (λ (z : ℤ). a *ℤ c +ℤ z) (neg_mul b c)
    ∙ ap (λ (z : ℤ). z -ℤ b *ℤ c) h
    ∙ +ℤ_invr (b *ℤ c))
    p)
