-- Document 01, 'The numbers a refusal carries': what a bulk move tests, in the order 5, 3, 4.
-- Assumes nothing.
use Rattle.std.specs.Prelude.{ℕ, ◌+◌, ◌*◌, ◌-◌, ◌%◌, ◌≤◌, ◌≡◌, cond, ◌&&◌, List, leb, eqb, length, Float}
use Rattle.vector.specs.declared.refusal.Refusal.{Refusal}
use Rattle.vector.specs.declared.refusal.Refusal.TheVariants.{InputLength, OutputLength, Order}
use Rattle.vector.specs.Refusals.{Outcome, given, refused_for, after}

-- refusal 5 unless the order is from the least one that the entry takes up to 4
unfoldable pub order_from : ℕ → ℕ → Outcome Unit
order_from least order = cond (leb least order && leb order 4) (given tt) (refused_for Order)

-- refused for this cause unless the number, a length or what is left over, is the one wanted
unfoldable pub number_is : Refusal → (found wanted : ℕ) → Outcome Unit
number_is cause found wanted = cond (eqb found wanted) (given tt) (refused_for cause)

-- the lengths of what a bulk move is handed: the matrix, the vectors or points, the output
pub record Lengths : Type 0 where
  pub matrix : ℕ
  pub input : ℕ
  pub output : ℕ

-- these lengths
abbrev pub lengths : (matrix input output : ℕ) → Lengths
lengths a b c = record { matrix = a; input = b; output = c }

-- those of three lists
abbrev pub lengths_of : (matrix input output : List Float) → Lengths
lengths_of a b c = lengths (length a) (length b) (length c)

-- the order, then the matrix of order² numbers, then whole vectors or points, then an output as long as these:
-- `short` is 0 for vectors; it is 1 for points, which are one number shorter than the order and start at order 3
unfoldable pub move_fits : (short order : ℕ) → Lengths → Outcome Unit
move_fits short order l =
    after (order_from (2 + short) order)
    (after (number_is InputLength l.matrix (order * order))
    (after (number_is InputLength (l.input % (order - short)) 0)
    (number_is OutputLength l.output l.input)))

-- what holds where none of these is refused
pub record Fits (short order : ℕ) (l : Lengths) : Type 0 where
  pub least : 2 + short ≤ order
  pub most : order ≤ 4
  pub square : l.matrix ≡ order * order
  pub whole : l.input % (order - short) ≡ 0
  pub same : l.output ≡ l.input
