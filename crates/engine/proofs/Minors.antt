-- The minors: the numbers other than one, a matrix without a column and a row, the sign of a place, and how large a minor is.
-- Assumes nothing.
use Rattle.std.proofs.Common.{◌≡◌, ℕ, zero, suc, ◌+◌, ◌-◌, ◌*◌, ◌%◌, ◌^◌, ◌<◌, ◌≤◌, List, [], ◌∷◌, get_or, ℤ, pos, negsuc, ◌-ℤ◌, ◌*ℤ◌, neg_ℤ, nat_abs, sym, refl, ap, ◌∙◌, subst, ap₂, suc-le-suc, le_trans, le_refl, lt_of_lt_of_le, le_of_suc-le-suc, not-suc-le-zero, mul-le-mul, arith, lit<, lit≤, w64, SFits, to_z, of_z}
use lib.IntN.{neg_ℤ-neg_ℤ, +ℤ_idl}
use Rattle.whole.specs.Matrix.{Matrix}
use Rattle.whole.specs.Order.{parity, skip, exact_signed_sum}
use Rattle.whole.proofs.Ring.{one_mul, neg_mul, abs_neg}
use Rattle.whole.proofs.Parity.{parity_add}
use Rattle.whole.proofs.Expansion.{signed_sum_ext}
use Rattle.whole.proofs.Bounds.{signed_sum_le}
use Rattle.engine.specs.Whole.{wholes, Small, Alike, without, minor}
use Rattle.engine.proofs.Places.{below_four}
use Rattle.engine.specs.Engine.{cofactor_of}
use Rattle.engine.proofs.Signed.{small_fits, small_back}
use Rattle.engine.proofs.Table.{few_rows, power_le, small_below}

-- ---- the numbers other than n

-- below n they are themselves
pub skip_low : (n j : ℕ) → j < n → skip n j ≡ j
skip_low zero j h = absurd (not-suc-le-zero h)
skip_low (suc n) zero h = refl
skip_low (suc n) (suc j) h = ap suc (skip_low n j (le_of_suc-le-suc h))

-- and from n on they are one more
pub skip_high : (n j : ℕ) → n ≤ j → skip n j ≡ suc j
skip_high zero j h = refl
skip_high (suc n) zero h = absurd (not-suc-le-zero h)
skip_high (suc n) (suc j) h = ap suc (skip_high n j (le_of_suc-le-suc h))

-- they are one more at most
skip_most : (n j : ℕ) → skip n j ≤ suc j
skip_most zero j = le_refl (suc j)
skip_most (suc n) zero = lit≤ tt
skip_most (suc n) (suc j) = suc-le-suc (skip_most n j)

-- ---- a list of four without one element

-- the place that each element had
abbrev place : ℕ → ℕ → ℕ
place n zero = skip n 0
place n (suc zero) = skip n 1
place n (suc (suc zero)) = skip n 2
place n (suc (suc (suc i))) = 3

-- it is a place of the list
place_lt : (n i : ℕ) → place n i < 4
place_lt n zero = suc-le-suc (le_trans (skip_most n 0) (lit≤ tt))
place_lt n (suc zero) = suc-le-suc (le_trans (skip_most n 1) (lit≤ tt))
place_lt n (suc (suc zero)) = suc-le-suc (skip_most n 2)
place_lt n (suc (suc (suc i))) = lit< tt

-- and its element stands there
without_at : {A : Type 0} (past : A) (list : List A) (n i : ℕ) → i < 4 → get_or (without past n list) i past ≡ get_or list (place n i) past
without_at past list n = below_four (λ i. get_or (without past n list) i past ≡ get_or list (place n i) past) refl refl refl refl

-- so small numbers stay small: kept are the columns without column c, and x, y, z, w each of them without element r
module _ (m kept : List (List ℤ)) (c r : ℕ) (small : Small 4 (wholes m)) (kept-is : kept ≡ without [] c m) where
  column_small : (k : ℕ) → k < 4 → (x : List ℤ) → x ≡ without (pos 0) r (get_or kept k []) → (j : ℕ) → j < 4 → nat_abs (get_or x j (pos 0)) ≤ 1024
  column_small k h x is j l =
      rw (is, without_at (pos 0) (get_or kept k []) r j l, kept-is, without_at [] m c k h) (small (place c k) (place r j) (place_lt c k) (place_lt r j))

  pub kept_small : {x y z w : List ℤ} → x ≡ without (pos 0) r (get_or kept 0 []) → y ≡ without (pos 0) r (get_or kept 1 []) → z ≡ without (pos 0) r (get_or kept 2 []) → w ≡ without (pos 0) r (get_or kept 3 []) → Small 4 (wholes (x ∷ y ∷ z ∷ w ∷ []))
  kept_small {x = x} {y = y} {z = z} {w = w} p q s t i j h l =
      below_four (λ i. nat_abs (wholes (x ∷ y ∷ z ∷ w ∷ []) i j) ≤ 1024) (column_small 0 (lit< tt) x p j l) (column_small 1 (lit< tt) y q j l) (column_small 2 (lit< tt) z s j l) (column_small 3 (lit< tt) w t j l) i h

-- ---- the minor

-- the matrix without a column and a row, as it was answered, and its order
module _ (n k : ℕ) (few : n ≤ 4) (m w : Matrix) (c r : ℕ) (less : k ≡ n - 1) (small : Small 4 w) (is : Alike 3 w (minor c r m)) where
  -- it has at most three columns
  three : n - 1 ≤ 3
  three = omega (arith, few)

  -- its sum is that of m
  sum_is : exact_signed_sum k w ≡ exact_signed_sum (n - 1) (minor c r m)
  sum_is = rw less (signed_sum_ext (n - 1) w (minor c r m) (λ d s a b. is d s (lt_of_lt_of_le a three) (lt_of_lt_of_le b three)))

  -- it is at most 24 * 2 ^ 40
  sum_le : nat_abs (exact_signed_sum k w) ≤ 24 * 2 ^ 40
  sum_le = let h : k ≤ 4 = rw less (le_trans three (lit≤ tt)) in le_trans (signed_sum_le 1024 k w (small_below k 4 w h small)) (mul-le-mul (few_rows k h) (power_le k h))

  -- ---- its sign
  -- the sum z as it was answered, and its negative as the code makes it
  module _ (z : ℤ) (z-is : z ≡ exact_signed_sum k w) where
    -- the negative
    abbrev pub negative : ℤ
    negative = pos 0 -ℤ to_z w64 (of_z w64 z)

    -- the sum is small
    z_le : nat_abs z ≤ 24 * 2 ^ 40
    z_le = subst (λ (z : ℤ). nat_abs z ≤ 24 * 2 ^ 40) (sym z-is) sum_le

    -- the code's negative is the negative
    negative_is : negative ≡ neg_ℤ z
    negative_is = +ℤ_idl (neg_ℤ (to_z w64 (of_z w64 z))) ∙ ap neg_ℤ (small_back z z_le (lit< tt))

    -- and small
    negative_le : nat_abs (neg_ℤ z) ≤ 24 * 2 ^ 40
    negative_le = subst (λ (k : ℕ). k ≤ 24 * 2 ^ 40) (sym (abs_neg z)) z_le

    -- it fits
    pub negative_fits : SFits w64 negative
    negative_fits = subst (SFits w64) (sym negative_is) (small_fits (neg_ℤ z) negative_le (lit< tt))

    -- the parity of an odd number and of an even one
    odd : (k : ℕ) → k % 2 ≡ 1 → parity k ≡ negsuc 0
    odd zero h = absurd (omega arith)
    odd (suc zero) h = refl
    odd (suc (suc k)) h = neg_ℤ-neg_ℤ (parity k) ∙ odd k (omega arith)

    even : (k : ℕ) → (k % 2 ≡ 1 → ⊥) → parity k ≡ pos 1
    even zero h = refl
    even (suc zero) h = absurd (h refl)
    even (suc (suc k)) h = neg_ℤ-neg_ℤ (parity k) ∙ even k (λ e. h (omega arith))

    -- at an odd place the cofactor is the negative
    pub odd_place : (c + r) % 2 ≡ 1 → to_z w64 (of_z w64 negative) ≡ cofactor_of n m c r
    odd_place h =
        ap (λ (v : ℤ). to_z w64 (of_z w64 v)) negative_is
        ∙ small_back (neg_ℤ z) negative_le (lit< tt)
        ∙ sym (neg_mul (pos 1) z ∙ ap neg_ℤ (one_mul z))
        ∙ ap₂ (λ (u v : ℤ). u *ℤ v) (sym (odd (c + r) h) ∙ parity_add c r) (z-is ∙ sum_is)

    -- at an even place it is the minor
    pub even_place : ((c + r) % 2 ≡ 1 → ⊥) → to_z w64 (of_z w64 z) ≡ cofactor_of n m c r
    even_place h =
        small_back z z_le (lit< tt) ∙ sym (one_mul z) ∙ ap₂ (λ (u v : ℤ). u *ℤ v) (sym (even (c + r) h) ∙ parity_add c r) (z-is ∙ sum_is)
