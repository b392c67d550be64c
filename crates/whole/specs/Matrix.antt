-- Square matrices of whole numbers. An entry is `m c r`: the column c stands first and the row r second, as in m[c][r]. At the order n only the entries with c and r below n count.
-- Assumes nothing.
use Rattle.std.specs.Prelude.{◌≡◌, ℕ, zero, suc, ◌<◌, ℤ, pos, ◌*ℤ◌}
use Rattle.whole.specs.Sum.{sum}

-- a matrix: the entry of a column and a row
abbrev pub Matrix : Type 0
Matrix = ℕ → ℕ → ℤ

-- the identity: 1 where column and row have the same number, and 0 elsewhere
abbrev pub δ : Matrix
δ zero zero = pos 1
δ zero (suc r) = pos 0
δ (suc c) zero = pos 0
δ (suc c) (suc r) = δ c r

-- the product m·a at the order n: column c, row r is the row r of m times the column c of a
abbrev pub times : ℕ → Matrix → Matrix → Matrix
times n m a = λ c r. sum n (λ k. m k r *ℤ a c k)

-- m is k·identity at the order n
abbrev pub IsMultiple : ℕ → Matrix → ℤ → Type 0
IsMultiple n m k = (c r : ℕ) → c < n → r < n → m c r ≡ k *ℤ δ c r
