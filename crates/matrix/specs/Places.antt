-- Document 01, 'Modules, leaves first', 3, and 'Rules of the arithmetic': row, diagonal, transpose and the swaps. Entries are carried untouched.
-- Document 02, No. 1, 'Say column or row': what their range tests name.
-- The range tests and the swaps are said once, whatever the order. A comment holds for the orders below it. Assumes nothing.
use Rattle.std.specs.Prelude.{ℕ, List, [], map, get_or, set, Float}
use Rattle.std.specs.Float.{nan}
use Rattle.vector.specs.Refusals.{Outcome, given, after, below_limit}
use Rattle.vector.specs.declared.refusal.Place.{Place}
use Rattle.vector.specs.declared.refusal.Place.TheVariants.{First, Second}
use Rattle.vector.specs.declared.refusal.Refusal.TheVariants as cause
use Rattle.vector.specs.Vectors.{vector2, vector3, vector4, entry}
use Rattle.vector.specs.declared.Vector2.{Vector2}
use Rattle.vector.specs.declared.Vector3.{Vector3}
use Rattle.vector.specs.declared.Vector4.{Vector4}
use Rattle.matrix.specs.Records.{order2, order3, order4, new2, new3, new4, column, array2, array3, array4, of_array2, of_array3, of_array4}
use Rattle.matrix.specs.declared.places.Column.{Column}
use Rattle.matrix.specs.declared.places.Row.{Row}
use Rattle.matrix.specs.declared.records.Matrix2.{Matrix2}
use Rattle.matrix.specs.declared.records.Matrix3.{Matrix3}
use Rattle.matrix.specs.declared.records.Matrix4.{Matrix4}

-- ---- the range tests, at order n: refusal 11 or 12 with its place, or nothing found

-- the row number, the first or the second (a lone one is the first), is below the order: else 12
abbrev pub row_below : ℕ → Place → Row → Outcome Unit
row_below n place r = below_limit (cause.Row place) n r.0

-- the column number, the first or the second (a lone one is the first), is below the order: else 11
abbrev pub column_below : ℕ → Place → Column → Outcome Unit
column_below n place c = below_limit (cause.Column place) n c.0

-- row swaps test rows only
unfoldable pub rows_below : ℕ → Row → Row → Outcome Unit
rows_below n a b = after (row_below n First a) (row_below n Second b)

-- column swaps test columns only
unfoldable pub columns_below : ℕ → Column → Column → Outcome Unit
columns_below n a b = after (column_below n First a) (column_below n Second b)

-- the numbers are tested in the order first column, first row, second column, second row
unfoldable pub elements_below : ℕ → Column → Row → Column → Row → Outcome Unit
elements_below n ac ar bc br = after (column_below n First ac) (after (row_below n First ar) (after (column_below n Second bc) (row_below n Second br)))

-- ---- on an array of columns, m[c][r] being column c, row r

-- m[c][r]
abbrev pub at : List (List Float) → ℕ → ℕ → Float
at m c r = entry (column m c) r

-- row r: entry r of each column
abbrev pub row_of2 : List (List Float) → ℕ → Vector2
row_of2 m r = vector2 (at m 0 r) (at m 1 r)

abbrev pub row_of3 : List (List Float) → ℕ → Vector3
row_of3 m r = vector3 (at m 0 r) (at m 1 r) (at m 2 r)

abbrev pub row_of4 : List (List Float) → ℕ → Vector4
row_of4 m r = vector4 (at m 0 r) (at m 1 r) (at m 2 r) (at m 3 r)

-- a list with what stands at two places exchanged: both are read, then both are written
abbrev pub exchange : {A : Type 0} → A → ℕ → ℕ → List A → List A
exchange past i j l = set (set l i (get_or l j past)) j (get_or l i past)

-- rows a and b exchanged, in each column
abbrev pub swap_rows : List (List Float) → ℕ → ℕ → List (List Float)
swap_rows m a b = map (λ c. exchange nan a b c) m

-- columns a and b exchanged
abbrev pub swap_columns : List (List Float) → ℕ → ℕ → List (List Float)
swap_columns m a b = exchange [] a b m

-- the array with e written to m[c][r]
abbrev pub put : List (List Float) → ℕ → ℕ → Float → List (List Float)
put m c r e = set m c (set (column m c) r e)

-- m[ac][ar] and m[bc][br] exchanged: both are read, then both are written
abbrev pub swap_elements : List (List Float) → ℕ → ℕ → ℕ → ℕ → List (List Float)
swap_elements m ac ar bc br = put (put m ac ar (at m bc br)) bc br (at m ac ar)

-- ---- on the records

-- row r
abbrev pub row2 : Matrix2 → Row → Outcome Vector2
row2 m r = after (row_below order2 First r) (given (row_of2 (array2 m) r.0))

abbrev pub row3 : Matrix3 → Row → Outcome Vector3
row3 m r = after (row_below order3 First r) (given (row_of3 (array3 m) r.0))

abbrev pub row4 : Matrix4 → Row → Outcome Vector4
row4 m r = after (row_below order4 First r) (given (row_of4 (array4 m) r.0))

-- the entries m[i][i]
abbrev pub diagonal2 : Matrix2 → Vector2
diagonal2 m = vector2 m.x.x m.y.y

abbrev pub diagonal3 : Matrix3 → Vector3
diagonal3 m = vector3 m.x.x m.y.y m.z.z

abbrev pub diagonal4 : Matrix4 → Vector4
diagonal4 m = vector4 m.x.x m.y.y m.z.z m.w.w

-- column c, row r holds m[r][c]
abbrev pub transpose2 : Matrix2 → Matrix2
transpose2 m =
    new2
    m.x.x m.y.x
    m.x.y m.y.y

abbrev pub transpose3 : Matrix3 → Matrix3
transpose3 m =
    new3
    m.x.x m.y.x m.z.x
    m.x.y m.y.y m.z.y
    m.x.z m.y.z m.z.z

abbrev pub transpose4 : Matrix4 → Matrix4
transpose4 m =
    new4
    m.x.x m.y.x m.z.x m.w.x
    m.x.y m.y.y m.z.y m.w.y
    m.x.z m.y.z m.z.z m.w.z
    m.x.w m.y.w m.z.w m.w.w

-- rows a and b exchanged
abbrev pub swap_rows2 : Matrix2 → Row → Row → Outcome Matrix2
swap_rows2 m a b = after (rows_below order2 a b) (given (of_array2 (swap_rows (array2 m) a.0 b.0)))

abbrev pub swap_rows3 : Matrix3 → Row → Row → Outcome Matrix3
swap_rows3 m a b = after (rows_below order3 a b) (given (of_array3 (swap_rows (array3 m) a.0 b.0)))

abbrev pub swap_rows4 : Matrix4 → Row → Row → Outcome Matrix4
swap_rows4 m a b = after (rows_below order4 a b) (given (of_array4 (swap_rows (array4 m) a.0 b.0)))

-- columns a and b exchanged
abbrev pub swap_columns2 : Matrix2 → Column → Column → Outcome Matrix2
swap_columns2 m a b = after (columns_below order2 a b) (given (of_array2 (swap_columns (array2 m) a.0 b.0)))

abbrev pub swap_columns3 : Matrix3 → Column → Column → Outcome Matrix3
swap_columns3 m a b = after (columns_below order3 a b) (given (of_array3 (swap_columns (array3 m) a.0 b.0)))

abbrev pub swap_columns4 : Matrix4 → Column → Column → Outcome Matrix4
swap_columns4 m a b = after (columns_below order4 a b) (given (of_array4 (swap_columns (array4 m) a.0 b.0)))

-- the entries at two places exchanged
abbrev pub swap_elements2 : Matrix2 → Column → Row → Column → Row → Outcome Matrix2
swap_elements2 m ac ar bc br = after (elements_below order2 ac ar bc br) (given (of_array2 (swap_elements (array2 m) ac.0 ar.0 bc.0 br.0)))

abbrev pub swap_elements3 : Matrix3 → Column → Row → Column → Row → Outcome Matrix3
swap_elements3 m ac ar bc br = after (elements_below order3 ac ar bc br) (given (of_array3 (swap_elements (array3 m) ac.0 ar.0 bc.0 br.0)))

abbrev pub swap_elements4 : Matrix4 → Column → Row → Column → Row → Outcome Matrix4
swap_elements4 m ac ar bc br = after (elements_below order4 ac ar bc br) (given (of_array4 (swap_elements (array4 m) ac.0 ar.0 bc.0 br.0)))
