-- How large the signed sum, its parts, and the cofactors of a matrix can be, from a limit on the magnitude of its entries. For every order.
-- Assumes nothing.
use mathlib.Core.Path.{ap, ◌∙◌, subst}
use mathlib.Core.List.Memᴰ
use mathlib.Core.List.{List, Memᴰ}
use Prim.Native.Nat.{ℕ, suc, ◌*◌, ◌^◌, ◌≤◌, ◌<◌}
use native.Mathlib.Nat.{le_refl, min-le_left, mul-le-mul, le_trans, le_of_eq, lt_of_lt_of_le}
use lib.ListN.{length, get_or, take, length-take}
use lib.IntN.{ℤ, ◌*ℤ◌, nat_abs}
use Rattle.whole.proofs.Ring.{*ℤ-assoc}
use Rattle.whole.proofs.Parity.{parity_keeps}
use Rattle.whole.proofs.Lists.{all_at, all_get_d, take_in}
use Rattle.whole.proofs.Sum.{sum_over_le, product_le}
use Rattle.whole.proofs.Orders.{orders_sound, orders_count}
use Rattle.whole.proofs.Expansion.{without, cofactor, places_without}
use Rattle.whole.specs.Sum.{product}
use Rattle.whole.specs.Matrix.{Matrix}
use Rattle.whole.specs.Order.{Order, inversions, parity, sign, down_rows, orders, exact_signed_sum}
use Rattle.whole.specs.Claim.{Table, columns, factorial, table_sum, RightSign, HoldsOrders}

-- ---- the signed sum
-- every entry below the order n has magnitude at most B
abbrev pub Within : ℕ → ℕ → Matrix → Type 0
Within B n m = (c r : ℕ) → c < n → r < n → nat_abs (m c r) ≤ B

-- a matrix of the order n whose entries are within B
module _ (B n : ℕ) (m : Matrix) (within : Within B n m) where
  -- the product down the rows is at most B ^ n
  pub down_rows_le : (cs : List ℕ) → Order n cs → nat_abs (down_rows m cs) ≤ B ^ n
  unfolding down_rows
  down_rows_le cs o =
      subst (λ (k : ℕ). nat_abs (product (length cs) (λ r. m (get_or cs r 0) r)) ≤ B ^ k) o.count
      (product_le (length cs) B (λ r. m (get_or cs r 0) r) (λ r l. within (get_or cs r 0) r (all_get_d (λ c. c < n) cs o.below r 0 l) (lt_of_lt_of_le l (le_of_eq o.count))))

  -- the signed sum is at most n! * B ^ n
  pub signed_sum_le : nat_abs (exact_signed_sum n m) ≤ factorial n * B ^ n
  unfolding exact_signed_sum
  signed_sum_le =
      le_trans (sum_over_le (B ^ n) (λ cs. sign cs *ℤ down_rows m cs) (orders n) (λ cs i. le_trans (le_of_eq (parity_keeps (inversions cs) (down_rows m cs))) (down_rows_le cs (orders_sound n cs i))))
      (le_of_eq (ap (λ (k : ℕ). k * B ^ n) (orders_count n)))

-- ---- the cofactors
-- a cofactor of a matrix of the order n + 1 is at most n! * B ^ n
pub cofactor_le : (B n : ℕ) (m : Matrix) → Within B (suc n) m → (c r : ℕ) → c ≤ n → r ≤ n → nat_abs (cofactor n m c r) ≤ factorial n * B ^ n
cofactor_le B n m within c r hc hr =
    le_trans (le_of_eq (ap nat_abs (*ℤ-assoc (parity c) (parity r) (exact_signed_sum n (without c r m))) ∙ parity_keeps c (parity r *ℤ exact_signed_sum n (without c r m)) ∙ parity_keeps r (exact_signed_sum n (without c r m))))
    (signed_sum_le B n (without c r m) (places_without (λ d s. nat_abs (m d s) ≤ B) n c r hc hr within))

-- ---- sums over a table
-- a matrix of the order n whose entries are within B, and a table that holds the orders of n columns
module _ (B n : ℕ) (m : Matrix) (within : Within B n m) (t : Table) (holds : HoldsOrders n t) where
  -- one row's term is at most B ^ n
  pub row_le : (row : List ℕ × ℤ) → Memᴰ row t → nat_abs (row.1 *ℤ down_rows m (columns row)) ≤ B ^ n
  row_le row i =
      le_trans (le_of_eq (ap (λ (s : ℤ). nat_abs (s *ℤ down_rows m (columns row))) (all_at RightSign holds.signs i) ∙ parity_keeps (inversions (columns row)) (down_rows m (columns row))))
      (down_rows_le B n m within (columns row) (holds.lists.each (columns row) (Memᴰ.map columns i)))

  -- the sum of the first k rows is at most k * B ^ n
  pub rows_le : (k : ℕ) → nat_abs (table_sum m (take k t)) ≤ k * B ^ n
  unfolding table_sum
  rows_le k =
      le_trans (sum_over_le (B ^ n) (λ row. row.1 *ℤ down_rows m (columns row)) (take k t) (λ row i. row_le row (take_in k t i)))
      (mul-le-mul (le_trans (le_of_eq (length-take k t)) (min-le_left k (length t))) (le_refl (B ^ n)))
