-- Document 01, 'The exact engine': the orders of four columns with their signs, a table of 24 rows.
-- That it holds each order once, with its right sign, and none besides, is shown in proofs/Table.antt. Assumes nothing.
use Rattle.std.specs.Prelude.{ℕ, ◌≤◌, List, [], ◌∷◌, map, ℤ, pos, negsuc, slice_index_or}
use Rattle.whole.specs.Claim.{Table, part, HoldsOrders}
use Rattle.engine.specs.declared.orders.Order.{Order}

-- a row: the columns in their order, and the sign
abbrev pub row : List ℕ → ℤ → Order
row columns sign = record { 0 = columns; 1 = sign }

-- the rows; the first n! of them are the orders of the first n columns, followed by the others in their places
unfoldable pub rows : List Order
rows =
    row (0 ∷ 1 ∷ 2 ∷ 3 ∷ []) (pos 1)
    ∷ row (1 ∷ 0 ∷ 2 ∷ 3 ∷ []) (negsuc 0)
    ∷ row (0 ∷ 2 ∷ 1 ∷ 3 ∷ []) (negsuc 0)
    ∷ row (2 ∷ 0 ∷ 1 ∷ 3 ∷ []) (pos 1)
    ∷ row (1 ∷ 2 ∷ 0 ∷ 3 ∷ []) (pos 1)
    ∷ row (2 ∷ 1 ∷ 0 ∷ 3 ∷ []) (negsuc 0)
    ∷ row (0 ∷ 1 ∷ 3 ∷ 2 ∷ []) (negsuc 0)
    ∷ row (1 ∷ 0 ∷ 3 ∷ 2 ∷ []) (pos 1)
    ∷ row (0 ∷ 3 ∷ 1 ∷ 2 ∷ []) (pos 1)
    ∷ row (3 ∷ 0 ∷ 1 ∷ 2 ∷ []) (negsuc 0)
    ∷ row (1 ∷ 3 ∷ 0 ∷ 2 ∷ []) (negsuc 0)
    ∷ row (3 ∷ 1 ∷ 0 ∷ 2 ∷ []) (pos 1)
    ∷ row (0 ∷ 2 ∷ 3 ∷ 1 ∷ []) (pos 1)
    ∷ row (2 ∷ 0 ∷ 3 ∷ 1 ∷ []) (negsuc 0)
    ∷ row (0 ∷ 3 ∷ 2 ∷ 1 ∷ []) (negsuc 0)
    ∷ row (3 ∷ 0 ∷ 2 ∷ 1 ∷ []) (pos 1)
    ∷ row (2 ∷ 3 ∷ 0 ∷ 1 ∷ []) (pos 1)
    ∷ row (3 ∷ 2 ∷ 0 ∷ 1 ∷ []) (negsuc 0)
    ∷ row (1 ∷ 2 ∷ 3 ∷ 0 ∷ []) (negsuc 0)
    ∷ row (2 ∷ 1 ∷ 3 ∷ 0 ∷ []) (pos 1)
    ∷ row (1 ∷ 3 ∷ 2 ∷ 0 ∷ []) (pos 1)
    ∷ row (3 ∷ 1 ∷ 2 ∷ 0 ∷ []) (negsuc 0)
    ∷ row (2 ∷ 3 ∷ 1 ∷ 0 ∷ []) (negsuc 0)
    ∷ row (3 ∷ 2 ∷ 1 ∷ 0 ∷ []) (pos 1)
    ∷ []

-- row i
abbrev pub order_at : ℕ → Order
order_at i = slice_index_or rows i (row [] (pos 0))

-- the rows as a table of column orders and signs
abbrev pub as_row : Order → List ℕ × ℤ
as_row o = (o.0, o.1)

abbrev pub table : Table
table = map as_row rows

-- what is claimed of the table: for each n up to 4 its first n! rows hold each order of n columns once, with its right sign, and nothing else; shown in proofs/Table.antt
abbrev pub TableHolds : Type 0
TableHolds = (n : ℕ) → n ≤ 4 → HoldsOrders n (part n table)

-- and the whole table holds each order of four columns once, with its right sign, and nothing else
abbrev pub HoldsAll : Type 0
HoldsAll = HoldsOrders 4 table
