-- What it means that a slip is caught: the wrong definition parts from the right one at an input that is named. And the matrices of document 01, 'Reference cases, both sides of each edge'.
-- Assumes nothing.
use Rattle.std.specs.Prelude.{◌≡◌}
use Rattle.matrix.specs.Records.{of_array2, of_array3, of_array4}
use Rattle.matrix.specs.declared.records.Matrix2.{Matrix2}
use Rattle.matrix.specs.declared.records.Matrix3.{Matrix3}
use Rattle.matrix.specs.declared.records.Matrix4.{Matrix4}
use Rattle.reference.specs.Table.{m1, m5, m6, m7, m8, m10}

-- at this input the two definitions give two answers
abbrev pub Parts : {A B : Type 0} → (A → B) → (A → B) → A → Type 0
Parts right wrong input = ¬ (right input ≡ wrong input)

-- no constant is this definition's answer at every input
abbrev pub NoConstant : {A B : Type 0} → (A → B) → Type 0
NoConstant {A} {B} right = (constant : B) → ¬ ((input : A) → right input ≡ constant)

-- a program that gives the wrong definition's answers doesn't give the right one's: the code, which is proved to give those, is no such program
abbrev pub CannotPass : Type 1
CannotPass = (A B : Type 0) (right wrong program : A → B) (input : A) → Parts right wrong input → ((a : A) → program a ≡ wrong a) → ¬ ((a : A) → program a ≡ right a)

-- ---- the matrices of document 01, 'Reference cases, both sides of each edge'

abbrev pub r1 : Matrix2
r1 = of_array2 m1

abbrev pub r5 : Matrix2
r5 = of_array2 m5

abbrev pub r6 : Matrix3
r6 = of_array3 m6

-- R7 multiplies the first of these by the second, R8 the other way round
abbrev pub r7 : Matrix2
r7 = of_array2 m7

abbrev pub r8 : Matrix2
r8 = of_array2 m8

abbrev pub r10 : Matrix4
r10 = of_array4 m10
