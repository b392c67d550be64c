-- Products of whole numbers: one factor more at the end, the same factors, and how large a product is.
-- Assumes nothing.
use Rattle.std.proofs.Common.{◌≡◌, ℕ, zero, suc, ◌^◌, ◌<◌, ◌≤◌, List, get_or, take, ℤ, ◌*ℤ◌, nat_abs, sym, refl, ap, ◌∙◌, subst, ap₂, suc-le-suc, le_trans, lt_of_lt_of_le, zero-lt-suc, lit<, get_or-take, w64, SFits, to_z, of_z}
use Rattle.whole.specs.Sum.{product}
use Rattle.whole.specs.Matrix.{Matrix}
use Rattle.whole.specs.Order.{Order, down_rows}
use Rattle.whole.proofs.Ring.{mul_one, one_mul, *ℤ-assoc}
use Rattle.whole.proofs.Lists.{all_get_d}
use Rattle.whole.proofs.Sum.{product_le}
use Rattle.engine.specs.Whole.{Small}
use Rattle.engine.proofs.Signed.{small_fits, small_back}
use Rattle.engine.proofs.Table.{power_le}

-- the last factor apart
product_last : (n : ℕ) (f : ℕ → ℤ) → product (suc n) f ≡ product n f *ℤ f n
unfolding product
product_last zero f = mul_one (f 0) ∙ sym (one_mul (f 0))
product_last (suc n) f = ap (λ (z : ℤ). f 0 *ℤ z) (product_last n (λ i. f (suc i))) ∙ sym (*ℤ-assoc (f 0) (product n (λ i. f (suc i))) (f (suc n)))

-- the same factors make the same product
product_ext : (n : ℕ) {f g : ℕ → ℤ} → ((i : ℕ) → i < n → f i ≡ g i) → product n f ≡ product n g
unfolding product
product_ext zero h = refl
product_ext (suc n) h = ap₂ (λ (x y : ℤ). x *ℤ y) (h 0 (zero-lt-suc n)) (product_ext n (λ i l. h (suc i) (suc-le-suc l)))

-- a matrix with small entries below the order n, and an order of n columns
module _ (n : ℕ) (few : n ≤ 4) (m : Matrix) (small : Small n m) (cs : List ℕ) (order : Order n (take n cs)) where
  -- the factor of row r
  abbrev pub factor : ℕ → ℤ
  factor r = m (get_or cs r 0) r

  -- the column at place r is below the order
  pub column_below_lem : (r : ℕ) → r < n → get_or cs r 0 < n
  column_below_lem r h =
      subst (λ (c : ℕ). c < n) (get_or-take n cs r 0 h)
      (all_get_d (λ c. c < n) (take n cs) order.below r 0 (subst (λ (k : ℕ). r < k) (sym order.count) h))

  -- the factor is small
  pub factor_le : (r : ℕ) → r < n → nat_abs (factor r) ≤ 1024
  factor_le r h = small (get_or cs r 0) r (column_below_lem r h) h

  -- the product of the first factors is at most 2 ^ 40
  pub factors_le : (k : ℕ) → k ≤ n → nat_abs (product k factor) ≤ 2 ^ 40
  factors_le k h = le_trans (product_le k 1024 factor (λ r l. factor_le r (lt_of_lt_of_le l h))) (power_le k (le_trans h few))

  -- one factor more, as the code multiplies: p holds the product so far
  pub one_factor : (p r : ℕ) → r < n → to_z w64 p ≡ product r factor → to_z w64 p *ℤ to_z w64 (of_z w64 (factor r)) ≡ product (suc r) factor
  one_factor p r h is =
      ap₂ (λ (x y : ℤ). x *ℤ y) is (small_back (factor r) (factor_le r h) (lit< tt)) ∙ sym (product_last r factor)

  -- the product fits
  pub product_fits : (r : ℕ) → r ≤ n → SFits w64 (product r factor)
  product_fits r h = small_fits (product r factor) (factors_le r h) (lit< tt)

  -- and is read back
  pub product_back : (r : ℕ) → r ≤ n → to_z w64 (of_z w64 (product r factor)) ≡ product r factor
  product_back r h = small_back (product r factor) (factors_le r h) (lit< tt)

  -- all of them make the product down the rows
  pub all_factors : product n factor ≡ down_rows m (take n cs)
  unfolding down_rows
  all_factors =
      product_ext n (λ r h. ap (λ (c : ℕ). m c r) (sym (get_or-take n cs r 0 h)))
      ∙ ap (λ (k : ℕ). product k (λ r. m (get_or (take n cs) r 0) r)) (sym order.count)
