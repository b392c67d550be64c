-- Document 01, 'Reference cases, both sides of each edge': R1 to R12 as data, columns in brackets; R11's refusal as document 02, No. 1, has it.
-- Exact, the sign of zero included, but for the inverses of R6 and R10, which are numerical; a NaN in R5. Assumes nothing.
use Rattle.std.specs.Prelude.{ℕ, true, false, List, [], ◌∷◌, pos, negsuc, neg_ℤ, Float}
use Rattle.std.specs.Float.{nan, fin, binary64}
use Rattle.std.specs.Float.Ieee.{of_int}
use Rattle.vector.specs.declared.refusal.Place.TheVariants.{First}
use Rattle.vector.specs.Refusals.{bare, placed}
use Rattle.reference.specs.Cases.{Columns, Operation, determinant2, determinant3, determinant4, invert2of, invert3of, invert4of, times2, axis_angle3, swap_rows2, swap_columns2, signed_sum2, Expected, exactly, numerically, refusal, Case, single}

-- ---- numbers

-- the whole numbers n and −n
abbrev pub whole : ℕ → Float
whole n = of_int binary64 (pos n)

abbrev pub negative : ℕ → Float
negative n = of_int binary64 (neg_ℤ (pos n))

-- −0.0, 1·2^−1 and 1·2^−2
abbrev pub minus_zero : Float
minus_zero = fin true 0 (pos 0)

abbrev pub half : Float
half = fin false 1 (negsuc 0)

abbrev pub quarter : Float
quarter = fin false 1 (negsuc 1)

-- ---- brackets: a column of numbers, or a matrix of columns

abbrev pub of2 : {A : Type 0} → A → A → List A
of2 a b = a ∷ b ∷ []

abbrev pub of3 : {A : Type 0} → A → A → A → List A
of3 a b c = a ∷ b ∷ c ∷ []

abbrev pub of4 : {A : Type 0} → A → A → A → A → List A
of4 a b c d = a ∷ b ∷ c ∷ d ∷ []

-- ---- the matrices that stand in more than one case

abbrev pub m1 : Columns
m1 = of2 (of2 (whole 3) (whole 5)) (of2 (whole 1) (whole 2))

abbrev pub m4 : Columns
m4 = of2 (of2 (negative 1) (whole 0)) (of2 (whole 0) (whole 0))

abbrev pub m5 : Columns
m5 = of2 (of2 nan (whole 0)) (of2 (whole 0) (whole 0))

abbrev pub m6 : Columns
m6 =
    of3
    (of3 (whole 0) (whole 1) (whole 0))
    (of3 (negative 1) (whole 0) (whole 0))
    (of3 (whole 10) (whole 20) (whole 1))

abbrev pub m7 : Columns
m7 = of2 (of2 (whole 1) (whole 0)) (of2 (whole 1) (whole 1))

abbrev pub m8 : Columns
m8 = of2 (of2 (whole 1) (whole 1)) (of2 (whole 0) (whole 1))

abbrev pub m10 : Columns
m10 =
    of4
    (of4 (whole 2) (whole 0) (whole 0) (whole 0))
    (of4 (whole 0) (whole 2) (whole 0) (whole 0))
    (of4 (whole 0) (whole 0) (whole 2) (whole 0))
    (of4 (whole 4) (whole 6) (whole 8) (whole 1))

-- ---- the table

-- the case of this number: the operation, and what is expected
abbrev pub case : ℕ → Operation → Expected → Case
case n operation expected = record { label = n; operation = operation; expected = expected }

-- R1 to R12
abbrev pub table : List Case
table =
    case 1 (determinant2 m1) (exactly (single (whole 1)))
    ∷ case 1 (invert2of m1) (exactly (of2 (of2 (whole 2) (negative 5)) (of2 (negative 1) (whole 3))))
    ∷ case 2 (invert2of (of2 (of2 (whole 2) (whole 0)) (of2 (whole 0) (whole 4)))) (exactly (of2 (of2 half minus_zero) (of2 minus_zero quarter)))
    ∷ case 3 (invert2of (of2 (of2 (whole 1) (whole 2)) (of2 (whole 2) (whole 4)))) (refusal (bare 2))
    ∷ case 4 (determinant2 m4) (exactly (single minus_zero))
    ∷ case 4 (invert2of m4) (refusal (bare 2))
    ∷ case 5 (determinant2 m5) (exactly (single nan))
    ∷ case 5 (invert2of m5) (exactly (of2 (of2 nan nan) (of2 nan nan)))
    ∷ case 6 (determinant3 m6) (exactly (single (whole 1)))
    ∷ case 6 (invert3of m6) (numerically (of3 (of3 (whole 0) (negative 1) (whole 0)) (of3 (whole 1) (whole 0) (whole 0)) (of3 (negative 20) (whole 10) (whole 1))))
    ∷ case 7 (times2 m7 m8) (exactly (of2 (of2 (whole 2) (whole 1)) (of2 (whole 1) (whole 1))))
    ∷ case 8 (times2 m8 m7) (exactly (of2 (of2 (whole 1) (whole 1)) (of2 (whole 1) (whole 2))))
    ∷ case 9 (axis_angle3 (of3 (whole 0) (whole 0) (whole 1)) (whole 1) (whole 0)) (exactly (of3 (of3 (whole 0) (whole 1) (whole 0)) (of3 (negative 1) (whole 0) (whole 0)) (of3 (whole 0) (whole 0) (whole 1))))
    ∷ case 10 (determinant4 m10) (exactly (single (whole 8)))
    ∷ case 10 (invert4of m10) (numerically (of4 (of4 half (whole 0) (whole 0) (whole 0)) (of4 (whole 0) half (whole 0) (whole 0)) (of4 (whole 0) (whole 0) half (whole 0)) (of4 (negative 2) (negative 3) (negative 4) (whole 1))))
    ∷ case 11 (swap_rows2 m1 1 1) (exactly m1)
    ∷ case 11 (swap_columns2 m1 5 5) (refusal (placed 11 First))
    ∷ case 12 (signed_sum2 (of2 (of2 (whole 1024) minus_zero) (of2 (whole 0) (whole 1)))) (exactly (single (whole 1024)))
    ∷ case 12 (signed_sum2 (of2 (of2 (whole 1025) (whole 0)) (of2 (whole 0) (whole 1)))) (refusal (bare 6))
    ∷ case 12 (signed_sum2 (of2 (of2 half (whole 0)) (of2 (whole 0) (whole 1)))) (refusal (bare 6))
    ∷ []
