-- Document 01, 'Reference cases, both sides of each edge': what a case claims, namely that the operation, at the inputs, has the expected outcome.
-- Matrices and vectors are columns of numbers, as the document writes them in brackets. Assumes nothing.
use Rattle.std.specs.Prelude.{ℕ, ◌≡◌, Bool, true, false, ◌&&◌, List, [], ◌∷◌, T, Float}
use Rattle.std.specs.Float.{binary64}
use Rattle.std.specs.Float.Ieee.{eq, of_int}
use Rattle.vector.specs.Refusals.{Outcome, given, refused, Meant, over}
use Rattle.vector.specs.Vectors.{of_entries3}
use Rattle.matrix.specs.Records.{array2, array3, array4, of_array2, of_array3, of_array4}
use Rattle.matrix.specs.Places as places
use Rattle.matrix.specs.Arithmetic.{mul2}
use Rattle.matrix.specs.Inverse.{det2, det3, det4, invert2, invert3, invert4}
use Rattle.matrix.specs.Rotations.{from_axis_angle3}
use Rattle.engine.specs.Whole.{floats2}
use Rattle.engine.specs.Engine.{signed_sum}

-- columns of numbers
abbrev pub Columns : Type 0
Columns = List (List Float)

-- the operations that the cases call, each at its order
pub data Operation : Type 0 where
  determinant2 determinant3 determinant4 : Columns → Operation
  invert2of invert3of invert4of : Columns → Operation
  times2 : Columns → Columns → Operation
  axis_angle3 : List Float → Float → Float → Operation
  swap_rows2 swap_columns2 : Columns → ℕ → ℕ → Operation
  signed_sum2 : Columns → Operation

-- what is expected: these columns, the sign of a zero included; these columns numerically; or this refusal
pub data Expected : Type 0 where
  exactly numerically : Columns → Expected
  refusal : Meant → Expected

-- a case: its number there, R1 to R12, for the reader; the operation with its inputs; the expected outcome
pub record Case : Type 0 where
  pub label : ℕ
  pub operation : Operation
  pub expected : Expected

-- ---- what an operation answers, by the definitions that the promises of `matrix` and `engine` cite

-- a number as one column of one number
abbrev pub single : Float → Columns
single x = (x ∷ []) ∷ []

-- the outcome of an operation, its values as columns
abbrev pub answer : Operation → Outcome Columns
answer (determinant2 m) = given (single (det2 (of_array2 m)))
answer (determinant3 m) = given (single (det3 (of_array3 m)))
answer (determinant4 m) = given (single (det4 (of_array4 m)))
answer (invert2of m) = over array2 (invert2 (of_array2 m))
answer (invert3of m) = over array3 (invert3 (of_array3 m))
answer (invert4of m) = over array4 (invert4 (of_array4 m))
answer (times2 a b) = given (array2 (mul2 (of_array2 a) (of_array2 b)))
answer (axis_angle3 axis s c) = given (array3 (from_axis_angle3 (of_entries3 axis) s c))
answer (swap_rows2 m a b) = over array2 (places.swap_rows2 (of_array2 m) (record { 0 = a }) (record { 0 = b }))
answer (signed_sum2 m) = over (λ z. single (of_int binary64 z)) (signed_sum 1024 2 (floats2 (of_array2 m)))
answer (swap_columns2 m a b) = over array2 (places.swap_columns2 (of_array2 m) (record { 0 = a }) (record { 0 = b }))

-- ---- the one claim

-- numerically equal, entry by entry: −0.0 equals 0.0
abbrev pub equal_column : List Float → List Float → Bool
equal_column [] [] = true
equal_column [] (y ∷ v) = false
equal_column (x ∷ u) [] = false
equal_column (x ∷ u) (y ∷ v) = eq x y && equal_column u v

-- and column by column
abbrev pub equal_columns : Columns → Columns → Bool
equal_columns [] [] = true
equal_columns [] (v ∷ b) = false
equal_columns (u ∷ a) [] = false
equal_columns (u ∷ a) (v ∷ b) = equal_column u v && equal_columns a b

-- the outcome is the expected one
abbrev pub Is : Outcome Columns → Expected → Type 0
Is outcome (exactly a) = outcome ≡ given a
Is (given m) (numerically a) = T (equal_columns m a)
Is (refused why) (numerically a) = ⊥
Is outcome (refusal why) = outcome ≡ refused why

-- what a case claims
abbrev pub claim : Case → Type 0
claim c = Is (answer c.operation) c.expected

-- what a table claims: each of its cases
abbrev pub Claims : List Case → Type 0
Claims [] = Unit
Claims (c ∷ cs) = claim c × Claims cs
