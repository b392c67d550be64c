-- What an output holds: the numbers of a matrix column after column, one number alone, a yes or no as 1 or 0, those of a component;
-- and the plain numbers handed in as the port's column and row numbers. Assumes nothing.
use Rattle.std.specs.Prelude.{ℕ, Bool, cond, List, [], ◌∷◌, ◌++◌, Float}
use Rattle.vector.specs.Vectors.{entries2, entries3, entries4}
use Rattle.matrix.specs.declared.places.Column.{Column}
use Rattle.matrix.specs.declared.places.Row.{Row}
use Rattle.matrix.specs.declared.records.Matrix2.{Matrix2}
use Rattle.matrix.specs.declared.records.Matrix3.{Matrix3}
use Rattle.matrix.specs.declared.records.Matrix4.{Matrix4}
use Rattle.component.specs.declared.Component.{Component}

-- the numbers of a matrix, column after column
abbrev pub numbers2 : Matrix2 → List Float
numbers2 m = entries2 m.x ++ entries2 m.y

abbrev pub numbers3 : Matrix3 → List Float
numbers3 m = entries3 m.x ++ entries3 m.y ++ entries3 m.z

abbrev pub numbers4 : Matrix4 → List Float
numbers4 m = entries4 m.x ++ entries4 m.y ++ entries4 m.z ++ entries4 m.w

-- one number alone
abbrev pub alone : {A : Type 0} → A → List A
alone n = n ∷ []

-- 1 for yes, 0 for no
abbrev pub flag : Bool → List ℕ
flag b = alone (cond b 1 0)

-- the numbers of a component for two outputs: flags, glyph index and the place after the record; the matrix
abbrev pub component_numbers : Component → List ℕ × List Float
component_numbers c = (c.flags ∷ c.index ∷ c.after ∷ [], numbers3 c.matrix)

-- a column number and a row number as the port takes them
abbrev pub column_at : ℕ → Column
column_at n = record { 0 = n }

abbrev pub row_at : ℕ → Row
row_at n = record { 0 = n }
