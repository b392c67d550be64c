-- Document 01, 'Rules of the arithmetic': a swap with equal numbers below the order changes nothing, and one with equal numbers not below it is refused, naming the first (document 02, No. 1).
-- Both at once: the outcome is the matrix after the check of that one number. Assumes nothing.
use mathlib.Core.Path.{◌≡◌, refl, sym, ap, ap₂, ◌∙◌}
use mathlib.Core.List.{List, [], ◌∷◌, map}
use Prim.Native.Nat.{ℕ, zero, suc, ◌<◌}
use native.Mathlib.Omega.{arith}
use lib.Ieee.{Float, nan}
use lib.ListN.{length, get_or, set}
use Rattle.vector.specs.declared.refusal.Place.TheVariants.{First, Second}
use Rattle.vector.specs.declared.refusal.Refusal.TheVariants as cause
use Rattle.vector.specs.Refusals.{Outcome, given, refused, after}
use Rattle.vector.specs.Vectors.{entry}
use Rattle.vector.proofs.Checks.{passes, twice}
use Rattle.matrix.specs.declared.places.Column.{Column}
use Rattle.matrix.specs.declared.places.Row.{Row}
use Rattle.matrix.specs.declared.records.Matrix2.{Matrix2}
use Rattle.matrix.specs.declared.records.Matrix3.{Matrix3}
use Rattle.matrix.specs.declared.records.Matrix4.{Matrix4}
use Rattle.matrix.specs.Records.{column, array2, array3, array4, of_array2, of_array3, of_array4}
use Rattle.matrix.specs.Places.{row_below, column_below, rows_below, columns_below, elements_below, exchange, put, swap_rows, swap_columns, swap_elements, swap_rows2, swap_rows3, swap_rows4, swap_columns2, swap_columns3, swap_columns4, swap_elements2, swap_elements3, swap_elements4}
use Rattle.matrix.proofs.Arrays.{Square, matrix2_back, matrix3_back, matrix4_back, square2, square3, square4, column_length}
use Rattle.matrix.proofs.Ranges.{both}

-- writing what stands there changes nothing
set_own : {A : Type 0} (past : A) (l : List A) (i : ℕ) → i < length l → set l i (get_or l i past) ≡ l
set_own past [] i h = absurd (omega arith)
set_own past (x ∷ l) zero h = refl
set_own past (x ∷ l) (suc i) h = ap (λ t. x ∷ t) (set_own past l i (omega arith))

-- a place exchanged with itself
exchange_own : {A : Type 0} (past : A) (i : ℕ) (l : List A) → i < length l → exchange past i i l ≡ l
exchange_own past i l h = rw (set_own past l i h, set_own past l i h)

-- an entry written to its own place
put_own : (m : List (List Float)) (c r : ℕ) → c < length m → r < length (column m c) → put m c r (entry (column m c) r) ≡ m
put_own m c r below within = rw (set_own nan (column m c) r within, set_own [] m c below)

-- a map that changes no element changes nothing
map_own : {A : Type 0} (past : A) (f : A → A) (l : List A) → ((i : ℕ) → i < length l → f (get_or l i past) ≡ get_or l i past) → map f l ≡ l
map_own past f [] h = refl
map_own past f (x ∷ l) h = ap₂ ◌∷◌ (h 0 (omega arith)) (map_own past f l (λ i below. h (suc i) (omega arith)))

-- what follows a check may use that it passed
following : {A : Type 0} (check : Outcome Unit) (v w : A) → (check ≡ given tt → v ≡ w) → after check (given v) ≡ after check (given w)
following (given u) v w h = ap given (h refl)
following (refused why) v w h = refl

-- two checks made twice, the second time for other causes, are made once
twice_both : (c r c' r' : Outcome Unit) → after c c' ≡ c → after r r' ≡ r → after c (after r (after c' r')) ≡ after c r
twice_both (given u) r c' r' column row = rw column row
twice_both (refused why) r c' r' column row = refl

-- ---- over the order: a record, its array of columns and the way back

module _ {M : Type 0} (n : ℕ) (array : M → List (List Float)) (ofArray : List (List Float) → M) (back : (m : M) → ofArray (array m) ≡ m) (square : (m : M) → Square n (array m)) (m : M) where
  -- rows a and a: where a is not below the order, the first is named
  rows_equal : (a : Row) → after (rows_below n a a) (given (ofArray (swap_rows (array m) a.0 a.0))) ≡ after (row_below n First a) (given m)
  unfolding rows_below
  rows_equal a =
      rw (twice (cause.Row First) (cause.Row Second) n a.0)
      (following (row_below n First a) _ _ (λ e. ap ofArray (map_own [] (exchange nan a.0 a.0) (array m) (λ i h. exchange_own nan a.0 _ (own e i h))) ∙ back m))
    where
      own : row_below n First a ≡ given tt → (i : ℕ) → i < length (array m) → a.0 < length (column (array m) i)
      own e i h =
          let below = passes _ n a.0 e in
          let wide = (square m).columns in omega (arith, column_length n (array m) (square m) i (omega arith))

  -- columns a and a
  columns_equal : (a : Column) → after (columns_below n a a) (given (ofArray (swap_columns (array m) a.0 a.0))) ≡ after (column_below n First a) (given m)
  unfolding columns_below
  columns_equal a =
      rw (twice (cause.Column First) (cause.Column Second) n a.0)
      (following (column_below n First a) _ _ (λ e. ap ofArray (exchange_own [] a.0 (array m) (own e)) ∙ back m))
    where
      own : column_below n First a ≡ given tt → a.0 < length (array m)
      own e = let below = passes _ n a.0 e in omega (arith, (square m).columns)

  -- one place, column c and row r, with itself
  elements_equal : (c : Column) (r : Row) → after (elements_below n c r c r) (given (ofArray (swap_elements (array m) c.0 r.0 c.0 r.0))) ≡ after (after (column_below n First c) (row_below n First r)) (given m)
  unfolding elements_below
  elements_equal c r =
      rw (twice_both (column_below n First c) (row_below n First r) (column_below n Second c) (row_below n Second r) (twice (cause.Column First) (cause.Column Second) n c.0) (twice (cause.Row First) (cause.Row Second) n r.0))
      (following (after (column_below n First c) (row_below n First r)) _ _ (λ e. ap ofArray (own (both _ _ (sym e))) ∙ back m))
    where
      own : (column_below n First c ≡ given tt) × (row_below n First r ≡ given tt) → swap_elements (array m) c.0 r.0 c.0 r.0 ≡ array m
      own e =
          let left = passes _ n c.0 e.0 in
          let low = passes _ n r.0 e.1 in
          let within : c.0 < length (array m) = omega (arith, (square m).columns) in
          let down : r.0 < length (column (array m) c.0) = omega (arith, column_length n (array m) (square m) c.0 left) in
          rw (put_own (array m) c.0 r.0 within down, put_own (array m) c.0 r.0 within down)

-- ---- on the records

pub rows_equal2 : (m : Matrix2) (a : Row) → swap_rows2 m a a ≡ after (row_below 2 First a) (given m)
rows_equal2 = rows_equal 2 array2 of_array2 matrix2_back square2

pub rows_equal3 : (m : Matrix3) (a : Row) → swap_rows3 m a a ≡ after (row_below 3 First a) (given m)
rows_equal3 = rows_equal 3 array3 of_array3 matrix3_back square3

pub rows_equal4 : (m : Matrix4) (a : Row) → swap_rows4 m a a ≡ after (row_below 4 First a) (given m)
rows_equal4 = rows_equal 4 array4 of_array4 matrix4_back square4

pub columns_equal2 : (m : Matrix2) (a : Column) → swap_columns2 m a a ≡ after (column_below 2 First a) (given m)
columns_equal2 = columns_equal 2 array2 of_array2 matrix2_back square2

pub columns_equal3 : (m : Matrix3) (a : Column) → swap_columns3 m a a ≡ after (column_below 3 First a) (given m)
columns_equal3 = columns_equal 3 array3 of_array3 matrix3_back square3

pub columns_equal4 : (m : Matrix4) (a : Column) → swap_columns4 m a a ≡ after (column_below 4 First a) (given m)
columns_equal4 = columns_equal 4 array4 of_array4 matrix4_back square4

pub elements_equal2 : (m : Matrix2) (c : Column) (r : Row) → swap_elements2 m c r c r ≡ after (after (column_below 2 First c) (row_below 2 First r)) (given m)
elements_equal2 = elements_equal 2 array2 of_array2 matrix2_back square2

pub elements_equal3 : (m : Matrix3) (c : Column) (r : Row) → swap_elements3 m c r c r ≡ after (after (column_below 3 First c) (row_below 3 First r)) (given m)
elements_equal3 = elements_equal 3 array3 of_array3 matrix3_back square3

pub elements_equal4 : (m : Matrix4) (c : Column) (r : Row) → swap_elements4 m c r c r ≡ after (after (column_below 4 First c) (row_below 4 First r)) (given m)
elements_equal4 = elements_equal 4 array4 of_array4 matrix4_back square4
