-- Orders of columns, their signs, and the signed sum over all orders of n columns.
-- Assumes nothing. That `orders` lists each order once, and nothing else, is shown in proofs/Orders.antt.
use Rattle.std.specs.Prelude.{◌≡◌, ◌≢◌, Bool, true, false, List, [], ◌∷◌, ◌++◌, map, ℕ, zero, suc, ◌+◌, ◌<◌, ltb, length, get_or, ℤ, pos, neg_ℤ, ◌*ℤ◌}
use Rattle.whole.specs.Sum.{product, sum_over}
use Rattle.whole.specs.Matrix.{Matrix}

-- every member of the list has the property
abbrev pub All : {A : Type 0} → (A → Type 0) → List A → Type 0
All P [] = Unit
All P (x ∷ xs) = P x × All P xs

-- no member stands in the list twice
abbrev pub Distinct : {A : Type 0} → List A → Type 0
Distinct [] = Unit
Distinct (x ∷ xs) = All (λ y. x ≢ y) xs × Distinct xs

-- an order of n columns: n numbers, each below n, none twice
pub record Order (n : ℕ) (cs : List ℕ) : Type 0 where
  pub count : length cs ≡ n
  pub below : All (λ c. c < n) cs
  pub distinct : Distinct cs

-- 1 if the test passes, and 0 if not
abbrev pub one_if : Bool → ℕ
one_if true = 1
one_if false = 0

-- how many members of the list are smaller than c
abbrev pub smaller : ℕ → List ℕ → ℕ
smaller c [] = 0
smaller c (d ∷ ds) = one_if (ltb d c) + smaller c ds

-- the inversions of an order: how many pairs are out of order, the larger number before the smaller
abbrev pub inversions : List ℕ → ℕ
inversions [] = 0
inversions (c ∷ cs) = smaller c cs + inversions cs

-- 1 at an even number, and -1 at an odd
abbrev pub parity : ℕ → ℤ
parity zero = pos 1
parity (suc k) = neg_ℤ (parity k)

-- the sign of an order: 1 if its inversions are even in number, and -1 if they are odd
abbrev pub sign : List ℕ → ℤ
sign cs = parity (inversions cs)

-- the product down the rows: the row r takes the column that stands at the place r of the order
unfoldable pub down_rows : Matrix → List ℕ → ℤ
down_rows m cs = product (length cs) (λ r. m (get_or cs r 0) r)

-- the j-th of the numbers other than c
abbrev pub skip : ℕ → ℕ → ℕ
skip zero j = suc j
skip (suc c) zero = zero
skip (suc c) (suc j) = suc (skip c j)

-- the column c first, and then the columns other than c in the given order
abbrev pub lead : ℕ → List ℕ → List ℕ
lead c cs = c ∷ map (skip c) cs

-- the lists f 0, f 1, .., f (n - 1), joined
abbrev pub joined : {A : Type 0} → ℕ → (ℕ → List A) → List A
joined zero f = []
joined (suc n) f = f 0 ++ joined n (λ i. f (suc i))

-- all orders of n columns: each column first, with each order of the others after it
unfoldable pub orders : ℕ → List (List ℕ)
orders zero = [] ∷ []
orders (suc n) = joined (suc n) (λ c. map (lead c) (orders n))

-- the signed sum: over all orders of n columns, the sign times the product down the rows
unfoldable pub exact_signed_sum : ℕ → Matrix → ℤ
exact_signed_sum n m = sum_over (λ cs. sign cs *ℤ down_rows m cs) (orders n)
