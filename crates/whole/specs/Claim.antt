-- What is claimed: when the signed sum is zero, and what a list or a table of the orders of n columns holds.
-- Assumes nothing.
use Rattle.std.specs.Prelude.{◌≡◌, ◌≢◌, ◌↔◌, ℕ, zero, suc, ◌*◌, take, ℤ, pos, ◌*ℤ◌}
use mathlib.Core.List.{List, map, Memᴰ}
use Rattle.whole.specs.Sum.{sum_over}
use Rattle.whole.specs.Matrix.{Matrix, times, IsMultiple}
use Rattle.whole.specs.Order.{All, Distinct, Order, sign, down_rows, exact_signed_sum}

-- a matrix a of whole numbers and a nonzero k that have m·a = k·identity at the order n
abbrev pub HasMultiple : ℕ → Matrix → Type 0
HasMultiple n m = (a : Matrix) × (k : ℤ) × (k ≢ pos 0) × IsMultiple n (times n m a) k

-- the signed sum is zero exactly if no such a and k exist
abbrev pub ZeroExactlyIf : ℕ → Matrix → Type 0
ZeroExactlyIf n m = (exact_signed_sum n m ≡ pos 0) ↔ ¬ HasMultiple n m

-- the list holds each order of n columns once, and nothing else
pub record ListsOrders (n : ℕ) (l : List (List ℕ)) : Type 0 where
  pub each : (cs : List ℕ) → Memᴰ cs l → Order n cs
  pub every : (cs : List ℕ) → Order n cs → Memᴰ cs l
  pub once : Distinct l

-- a table of orders: each row has columns and a sign
abbrev pub Table : Type 0
Table = List (List ℕ × ℤ)

-- the columns of a row
abbrev pub columns : List ℕ × ℤ → List ℕ
columns row = row.0

-- 1 * 2 * .. * n
abbrev pub factorial : ℕ → ℕ
factorial zero = 1
factorial (suc n) = suc n * factorial n

-- the first n! rows of a table, and of each the first n columns
abbrev pub part : ℕ → Table → Table
part n t = map (λ row. (take n (columns row), row.1)) (take (factorial n) t)

-- the sum over a table: of each row its sign times the product down the rows of m
unfoldable pub table_sum : Matrix → Table → ℤ
table_sum m t = sum_over (λ row. row.1 *ℤ down_rows m (columns row)) t

-- a row has the sign of its order
abbrev pub RightSign : List ℕ × ℤ → Type 0
RightSign row = row.1 ≡ sign (columns row)

-- the table holds each order of n columns once, and nothing else, and each order has its right sign
pub record HoldsOrders (n : ℕ) (t : Table) : Type 0 where
  pub lists : ListsOrders n (map columns t)
  pub signs : All RightSign t
