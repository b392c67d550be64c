-- A matrix whose entries stand in a list, column by column, and its entries as floats.
-- Assumes nothing.
use Rattle.std.specs.Prelude.{◌≡◌, ℕ, ◌+◌, ◌*◌, ◌<◌, ◌≤◌, List, map, ℤ, pos, slice_index_or, unsigned_abs, Float}
use Rattle.std.specs.List.{range_with_len}
use Rattle.std.specs.Float.{binary64}
use Rattle.std.specs.Float.Ieee.{of_int}
use Rattle.vector.specs.Refusals.{Outcome, given, refused}
use Rattle.whole.specs.Matrix.{Matrix}
use Rattle.engine.specs.Whole.{Floats}

-- column c, row r of order n stands at c * n + r
abbrev pub columns : ℕ → List ℤ → Matrix
columns n list = λ c r. slice_index_or list (c * n + r) (pos 0)

-- the first k numbers are of magnitude at most 1024
pub record SmallList (k : ℕ) (list : List ℤ) : Type 0 where
  pub each : (i : ℕ) → i < k → unsigned_abs (slice_index_or list i (pos 0)) ≤ 1024

-- an order from 2 to 4, and small entries
pub record Square (n : ℕ) (list : List ℤ) : Type 0 where
  pub least : 2 ≤ n
  pub most : n ≤ 4
  pub small : SmallList (n * n) list

-- the float of the number at a place
abbrev pub float_at : List ℤ → ℕ → Float
float_at list i = of_int binary64 (slice_index_or list i (pos 0))

-- the floats of n numbers from place i on
abbrev pub floats_from : (i n : ℕ) → List ℤ → List Float
floats_from i n list = map (λ r. float_at list (i + r)) (range_with_len 0 n)

-- the floats of the first numbers, in n columns of n
abbrev pub array_of : ℕ → List ℤ → List (List Float)
array_of n list = map (λ c. floats_from (c * n) n list) (range_with_len 0 n)

-- the entries are the floats of the matrix's numbers
pub record AsFloats (n : ℕ) (list : List ℤ) (e : Floats) : Type 0 where
  pub each : (c r : ℕ) → c < n → r < n → e c r ≡ float_at list (c * n + r)

-- the number that was given, or 0
abbrev pub number_in : Outcome ℤ → ℤ
number_in (given z) = z
number_in (refused why) = pos 0
