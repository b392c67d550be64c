-- Arrays of columns and matrices, there and back: every entry is kept, at each order.
-- Assumes nothing.
use mathlib.Core.Path.{◌≡◌, refl, ap, ap₂, ◌∙◌}
use mathlib.Core.List.{List, [], ◌∷◌}
use Prim.Native.Nat.{ℕ, zero, suc, ◌<◌}
use native.Mathlib.Omega.{arith}
use lib.Ieee.{Float, nan}
use lib.ListN.{length, get_or}
use Rattle.vector.specs.Vectors.{entry}
use Rattle.matrix.specs.Records.{column, array2, array3, array4, of_array2, of_array3, of_array4}
use Rattle.matrix.specs.declared.records.Matrix2.{Matrix2}
use Rattle.matrix.specs.declared.records.Matrix3.{Matrix3}
use Rattle.matrix.specs.declared.records.Matrix4.{Matrix4}

-- each column has n numbers
abbrev pub Long : ℕ → List (List Float) → Type 0
Long n [] = Unit
Long n (c ∷ a) = (length c ≡ n) × Long n a

-- n columns of n numbers each: what an array of type [[f64; n]; n] holds
pub record Square (n : ℕ) (a : List (List Float)) : Type 0 where
  pub columns : length a ≡ n
  pub rows : Long n a

-- column c of such an array has n numbers
long_at : (n : ℕ) (a : List (List Float)) → Long n a → (c : ℕ) → c < length a → length (column a c) ≡ n
long_at n [] h c below = absurd (omega arith)
long_at n (x ∷ a) h zero below = h.0
long_at n (x ∷ a) h (suc c) below = long_at n a h.1 c (omega arith)

pub column_length : (n : ℕ) (a : List (List Float)) → Square n a → (c : ℕ) → c < n → length (column a c) ≡ n
column_length n a s c below = long_at n a s.rows c (omega (arith, s.columns))

-- the array of a matrix is square
pub square2 : (m : Matrix2) → Square 2 (array2 m)
square2 m = record { columns = refl; rows = (refl, (refl, tt)) }

pub square3 : (m : Matrix3) → Square 3 (array3 m)
square3 m = record { columns = refl; rows = (refl, (refl, (refl, tt))) }

pub square4 : (m : Matrix4) → Square 4 (array4 m)
square4 m = record { columns = refl; rows = (refl, (refl, (refl, (refl, tt)))) }

-- ---- a list by its elements

-- f 0, f 1, .. up to n of them
abbrev listed : {A : Type 0} → ℕ → (ℕ → A) → List A
listed zero f = []
listed (suc n) f = f 0 ∷ listed n (λ i. f (suc i))

-- a list of n elements is its elements, listed
listed_is : {A : Type 0} (past : A) (n : ℕ) (l : List A) → length l ≡ n → listed n (λ i. get_or l i past) ≡ l
listed_is past zero [] e = refl
listed_is past zero (x ∷ l) e = absurd (omega arith)
listed_is past (suc n) [] e = absurd (omega arith)
listed_is past (suc n) (x ∷ l) e = ap (λ t. x ∷ t) (listed_is past n l (omega arith))

-- what is equal at each place below n is listed alike
listed_alike : {A : Type 0} (n : ℕ) (f g : ℕ → A) → ((i : ℕ) → i < n → f i ≡ g i) → listed n f ≡ listed n g
listed_alike zero f g h = refl
listed_alike (suc n) f g h = ap₂ ◌∷◌ (h 0 (omega arith)) (listed_alike n (λ i. f (suc i)) (λ i. g (suc i)) (λ i below. h (suc i) (omega arith)))

-- a square array is its entries, listed column by column
square_is : (n : ℕ) (a : List (List Float)) → Square n a → listed n (λ c. listed n (λ r. entry (column a c) r)) ≡ a
square_is n a s = listed_alike n _ _ (λ c below. listed_is nan n (column a c) (column_length n a s c below)) ∙ listed_is [] n a s.columns

-- ---- there and back

-- a matrix made an array and a matrix again is the same matrix
pub matrix2_back : (m : Matrix2) → of_array2 (array2 m) ≡ m
matrix2_back m = refl

pub matrix3_back : (m : Matrix3) → of_array3 (array3 m) ≡ m
matrix3_back m = refl

pub matrix4_back : (m : Matrix4) → of_array4 (array4 m) ≡ m
matrix4_back m = refl

-- an array made a matrix and an array again is the same array
pub array2_back : (a : List (List Float)) → Square 2 a → array2 (of_array2 a) ≡ a
array2_back = square_is 2

pub array3_back : (a : List (List Float)) → Square 3 a → array3 (of_array3 a) ≡ a
array3_back = square_is 3

pub array4_back : (a : List (List Float)) → Square 4 a → array4 (of_array4 a) ≡ a
array4_back = square_is 4
