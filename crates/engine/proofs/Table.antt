-- The table holds each order of n columns exactly once, missing none, with its right sign: one test over the table that computes, and the law that turns it into the rule.
-- Then what one turn of the sum's loop adds, and how large its parts can be. Assumes nothing.
use Rattle.std.proofs.Common.{◌≡◌, ℕ, zero, suc, ◌*◌, ◌^◌, ◌<◌, ◌≤◌, T, List, [], ◌∷◌, length, get_or, take, ℤ, pos, ◌+ℤ◌, ◌*ℤ◌, nat_abs, sym, refl, ap, ◌∙◌, subst, le_trans, le_of_eq, le_refl, le_of_suc-le-suc, not-suc-le-zero, lt_of_lt_of_le, mul-le-mul, lit≤, take_all, get_or-take, take-suc}
use mathlib.Core.List.Memᴰ
use mathlib.Core.List.{Memᴰ}
use lib.ListN.{get_or-map}
use lib.IntN.{+ℤ_idr}
use Rattle.whole.specs.Sum.{sum_over}
use Rattle.whole.specs.Matrix.{Matrix}
use Rattle.whole.specs.Order.{Order, inversions, down_rows, orders, exact_signed_sum}
use Rattle.whole.specs.Claim.{columns, factorial, part, table_sum, RightSign}
use Rattle.whole.proofs.Parity.{parity_abs}
use Rattle.whole.proofs.Lists.{all_at, all_get_d, all_of}
use Rattle.whole.proofs.Sum.{sum_over_append}
use Rattle.whole.proofs.Bounds.{row_le, rows_le}
use Rattle.whole.proofs.Table.{holds_parts, part_orders, part_total}
use Rattle.engine.specs.declared.orders.Order.{Order as Row}
use Rattle.engine.specs.Orders.{row, rows, order_at, as_row, table, TableHolds, HoldsAll}
use Rattle.engine.specs.Whole.{Small}

-- ---- the rule of the table

-- the test over the table: for each n up to 4, its first n! rows hold the orders of n columns with their signs
passes : T (holds_parts 4 table)
unfolding rows orders
passes = tt

-- so these rows hold each order of n columns once, with its right sign, and nothing else
pub orders_held : TableHolds
orders_held = part_orders 4 table passes

-- all 24 rows are the orders of four columns
pub all_held : HoldsAll
unfolding rows
all_held = orders_held 4 (le_refl 4)

-- and their sum is the signed sum
pub rows_total : (n : ℕ) → n ≤ 4 → (m : Matrix) → table_sum m (part n table) ≡ exact_signed_sum n m
rows_total = part_total 4 table passes

-- ---- one turn of the loop

-- what holds from 0 to 4
up_to_four : (P : ℕ → Type 0) → P 0 → P 1 → P 2 → P 3 → P 4 → (n : ℕ) → n ≤ 4 → P n
up_to_four P a b c d e zero h = a
up_to_four P a b c d e (suc zero) h = b
up_to_four P a b c d e (suc (suc zero)) h = c
up_to_four P a b c d e (suc (suc (suc zero))) h = d
up_to_four P a b c d e (suc (suc (suc (suc zero)))) h = e
up_to_four P a b c d e (suc (suc (suc (suc (suc n))))) h =
    absurd (not-suc-le-zero (le_of_suc-le-suc (le_of_suc-le-suc (le_of_suc-le-suc (le_of_suc-le-suc h)))))

-- n columns have n! rows
rows_count : (n : ℕ) → n ≤ 4 → length (part n table) ≡ factorial n
unfolding rows
rows_count = up_to_four (λ n. length (part n table) ≡ factorial n) refl refl refl refl refl

-- the sum over all of them
pub all_rows : (n : ℕ) → n ≤ 4 → (m : Matrix) (k : ℕ) → k ≡ factorial n → table_sum m (take k (part n table)) ≡ exact_signed_sum n m
all_rows n few m k all =
    ap (table_sum m) (take_all k (part n table) (le_of_eq (rows_count n few ∙ sym all))) ∙ rows_total n few m

-- at most 24
pub few_rows : (n : ℕ) → n ≤ 4 → factorial n ≤ 24
few_rows = up_to_four (λ n. factorial n ≤ 24) (lit≤ tt) (lit≤ tt) (lit≤ tt) (lit≤ tt) (lit≤ tt)

-- the rows that the code is handed: n! of them,
pub handed_count : (n : ℕ) → n ≤ 4 → {items : List Row} → items ≡ take (factorial n) rows → length items ≡ factorial n
unfolding rows
handed_count n few is = ap length is ∙ up_to_four (λ n. length (take (factorial n) rows) ≡ factorial n) refl refl refl refl refl n few

pub handed_inside : (n : ℕ) → n ≤ 4 → {i : ℕ} {items : List Row} → items ≡ take (factorial n) rows → i < length items → i < factorial n
handed_inside n few is h = lt_of_lt_of_le h (le_of_eq (handed_count n few is))

-- and each is the table's
pub handed_row : (n i : ℕ) → {items : List Row} → items ≡ take (factorial n) rows → i < factorial n → get_or items i (row [] (pos 0)) ≡ order_at i
handed_row n i is h = ap (λ (items : List Row). get_or items i (row [] (pos 0))) is ∙ get_or-take (factorial n) rows i (row [] (pos 0)) h

-- a product of n numbers up to 1024 is at most 2 ^ 40
pub power_le : (n : ℕ) → n ≤ 4 → 1024 ^ n ≤ 2 ^ 40
power_le = up_to_four (λ n. 1024 ^ n ≤ 2 ^ 40) (lit≤ tt) (lit≤ tt) (lit≤ tt) (lit≤ tt) (lit≤ tt)

-- the first n columns of a row
abbrev first : ℕ → List ℕ × ℤ → List ℕ × ℤ
first n row = (take n (columns row), row.1)

-- row i of that part of the table
part_row : (n i : ℕ) → i < factorial n → get_or (part n table) i (first n ([], pos 0)) ≡ first n (as_row (order_at i))
part_row n i h =
    get_or-map (first n) (take (factorial n) table) i ([], pos 0)
    ∙ ap (first n) (get_or-take (factorial n) table i ([], pos 0) h ∙ get_or-map as_row rows i (row [] (pos 0)))

-- a smaller order has small entries too
pub small_below : (k n : ℕ) (m : Matrix) → k ≤ n → Small n m → Small k m
small_below k n m h small c r a b = small c r (lt_of_lt_of_le a h) (lt_of_lt_of_le b h)

-- a matrix with small entries below the order n
module _ (n : ℕ) (few : n ≤ 4) (m : Matrix) (small : Small n m) where
  -- no partial sum passes 24 * 2 ^ 40
  pub partial_le : (k : ℕ) → k ≤ 24 → nat_abs (table_sum m (take k (part n table))) ≤ 24 * 2 ^ 40
  partial_le k h = le_trans (rows_le 1024 n m small (part n table) (orders_held n few) k) (mul-le-mul h (power_le n few))

  -- a row of the table
  module _ (i : ℕ) (inside : i < factorial n) where
    -- what row i adds
    abbrev pub term : ℤ
    term = (order_at i).1 *ℤ down_rows m (take n (order_at i).0)

    -- what holds of every row holds of row i
    of_row : (P : List ℕ × ℤ → Type 0) → ((row : List ℕ × ℤ) → Memᴰ row (part n table) → P row) → P (first n (as_row (order_at i)))
    of_row P each =
        subst P (part_row n i inside)
        (all_get_d P (part n table) (all_of P (part n table) each) i (first n ([], pos 0)) (subst (λ (k : ℕ). i < k) (sym (rows_count n few)) inside))

    -- its first n columns are an order
    pub row_order : Order n (take n (order_at i).0)
    row_order = of_row (λ row. Order n (columns row)) (λ row at. (orders_held n few).lists.each (columns row) (Memᴰ.map columns at))

    -- its sign is 1 or -1
    pub sign_le : nat_abs (order_at i).1 ≤ 1
    sign_le = of_row (λ row. nat_abs row.1 ≤ 1) (λ row at. le_of_eq (ap nat_abs (all_at RightSign (orders_held n few).signs at) ∙ parity_abs (inversions (columns row))))

    -- and its term is at most 2 ^ 40
    pub term_le : nat_abs term ≤ 2 ^ 40
    term_le = of_row (λ row. nat_abs (row.1 *ℤ down_rows m (columns row)) ≤ 2 ^ 40) (λ row at. le_trans (row_le 1024 n m small (part n table) (orders_held n few) row at) (power_le n few))

    -- one row more adds its term
    pub one_more : table_sum m (take (suc i) (part n table)) ≡ table_sum m (take i (part n table)) +ℤ term
    unfolding table_sum sum_over
    one_more =
        let f : List ℕ × ℤ → ℤ = λ row. row.1 *ℤ down_rows m (columns row) in
        let t = part n table in
        let d = first n ([], pos 0) in
        ap (sum_over f) (take-suc t i d (subst (λ (k : ℕ). i < k) (sym (rows_count n few)) inside))
        ∙ sum_over_append f (take i t) (get_or t i d ∷ [])
        ∙ ap (λ (z : ℤ). sum_over f (take i t) +ℤ z) (+ℤ_idr (f (get_or t i d)) ∙ ap f (part_row n i inside))
