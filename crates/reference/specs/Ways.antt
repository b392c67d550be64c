-- Document 02, No. 1, 'Say column or row': what is refused for numbers below the order and not below it, every combination written out.
-- A table of its own: nothing of it is computed by the definitions that are held to it. Assumes nothing.
use Rattle.std.specs.Prelude.{ℕ, ◌≡◌, cond, ltb}
use Rattle.vector.specs.declared.refusal.Place.TheVariants.{First, Second}
use Rattle.vector.specs.Refusals.{Outcome, given, refused, placed, after, done}
use Rattle.vector.specs.Vectors.{truncate_n4}
use Rattle.vector.specs.declared.Vector2.{Vector2}
use Rattle.vector.specs.declared.Vector3.{Vector3}
use Rattle.vector.specs.declared.Vector4.{Vector4}
use Rattle.matrix.specs.Places.{row2, row3, row4, swap_rows2, swap_rows3, swap_rows4, swap_columns2, swap_columns3, swap_columns4, swap_elements2, swap_elements3, swap_elements4}
use Rattle.matrix.specs.declared.places.Column.{Column}
use Rattle.matrix.specs.declared.places.Row.{Row}
use Rattle.matrix.specs.declared.records.Matrix2.{Matrix2}
use Rattle.matrix.specs.declared.records.Matrix3.{Matrix3}
use Rattle.matrix.specs.declared.records.Matrix4.{Matrix4}
use Rattle.engine.specs.Whole.{Floats}
use Rattle.engine.specs.Engine.{taken, cofactor}

-- where a number stands: below the order, or not
pub data Side : Type 0 where
  below past : Side

-- where the number k stands at the order n
abbrev pub side : (n k : ℕ) → Side
side n k = cond (ltb k n) below past

-- ---- the table

-- a lone row number, or a dropped element
abbrev pub lone : Side → Outcome Unit
lone below = given tt
lone past = refused (placed 12 First)

-- a cofactor's column and row, of one place
abbrev pub one_place : Side → Side → Outcome Unit
one_place below below = given tt
one_place below past = refused (placed 12 First)
one_place past below = refused (placed 11 First)
one_place past past = refused (placed 11 First)

-- the first row and the second
abbrev pub two_rows : Side → Side → Outcome Unit
two_rows below below = given tt
two_rows below past = refused (placed 12 Second)
two_rows past below = refused (placed 12 First)
two_rows past past = refused (placed 12 First)

-- the first column and the second
abbrev pub two_columns : Side → Side → Outcome Unit
two_columns below below = given tt
two_columns below past = refused (placed 11 Second)
two_columns past below = refused (placed 11 First)
two_columns past past = refused (placed 11 First)

-- the first column, the first row, the second column, the second row
abbrev pub two_places : Side → Side → Side → Side → Outcome Unit
two_places below below below below = given tt
two_places below below below past = refused (placed 12 Second)
two_places below below past below = refused (placed 11 Second)
two_places below below past past = refused (placed 11 Second)
two_places below past below below = refused (placed 12 First)
two_places below past below past = refused (placed 12 First)
two_places below past past below = refused (placed 12 First)
two_places below past past past = refused (placed 12 First)
two_places past below below below = refused (placed 11 First)
two_places past below below past = refused (placed 11 First)
two_places past below past below = refused (placed 11 First)
two_places past below past past = refused (placed 11 First)
two_places past past below below = refused (placed 11 First)
two_places past past below past = refused (placed 11 First)
two_places past past past below = refused (placed 11 First)
two_places past past past past = refused (placed 11 First)

-- ---- what is claimed

-- at the order n the row, of numbers R, and the swaps of matrices M are done or refused as the table says
pub record WaysAt (n : ℕ) (M R : Type 0) (row : M → Row → Outcome R) (rows : M → Row → Row → Outcome M) (columns : M → Column → Column → Outcome M) (elements : M → Column → Row → Column → Row → Outcome M) : Type 0 where
  pub row_found : (m : M) (r : Row) → done (row m r) ≡ lone (side n r.0)
  pub rows_found : (m : M) (a b : Row) → done (rows m a b) ≡ two_rows (side n a.0) (side n b.0)
  pub columns_found : (m : M) (a b : Column) → done (columns m a b) ≡ two_columns (side n a.0) (side n b.0)
  pub elements_found : (m : M) (ac : Column) (ar : Row) (bc : Column) (br : Row) → done (elements m ac ar bc br) ≡ two_places (side n ac.0) (side n ar.0) (side n bc.0) (side n br.0)

-- at orders 2, 3 and 4 (the swaps in place have the outcomes of those by value); a dropped element; and a cofactor, whose place comes before its entries
pub record Ways : Type 0 where
  pub order2 : WaysAt 2 Matrix2 Vector2 row2 swap_rows2 swap_columns2 swap_elements2
  pub order3 : WaysAt 3 Matrix3 Vector3 row3 swap_rows3 swap_columns3 swap_elements3
  pub order4 : WaysAt 4 Matrix4 Vector4 row4 swap_rows4 swap_columns4 swap_elements4
  pub dropped : (v : Vector4) (n : ℕ) → done (truncate_n4 v n) ≡ lone (side 4 n)
  pub cofactors : (limit n : ℕ) (e : Floats) (c : Column) (r : Row) → done (cofactor limit n e c r) ≡ after (one_place (side n c.0) (side n r.0)) (taken limit n e)
