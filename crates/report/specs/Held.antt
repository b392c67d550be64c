-- Where the report says that what a matrix moves comes back, it does: demand 3 of that very matrix, and of the inverse that the report prints.
-- Said once over the order. Assumes nothing.
use Rattle.std.specs.Prelude.{ℕ, ◌*◌, Bool, cond, T, List, ℤ, ◌==◌, unsigned_abs}
use Rattle.whole.specs.Order.{exact_signed_sum}
use Rattle.engine.specs.Engine.{is_one_bit}
use Rattle.engine.specs.Demand.{Port, port2, port3, port4, HasExactInverse}
use Rattle.report.specs.Entries.{columns, SmallList, AsFloats}

-- whether the report says that what a matrix of the order n moves comes back: exactly one bit of its signed sum's magnitude is set
abbrev pub says : ℕ → List ℤ → Bool
says n zs = is_one_bit (unsigned_abs (exact_signed_sum n (columns n zs)))

-- up to which entries whole vectors come back: the limit that the report names
abbrev pub vectors_of : ℕ → ℕ
vectors_of n = cond (n == 4) 64 32768

-- every matrix whose entries are the floats of the list has an inverse, which undoes it for those vectors, and whose entries are exactly the fractions that the report prints
abbrev pub Held : Port → List ℤ → Type 0
Held p zs = (m : p.Matrix) → AsFloats p.order zs (p.entries m) → HasExactInverse p (vectors_of p.order) (columns p.order zs) m

-- it is so wherever the numbers are small and the report says so
abbrev pub HeldAt : Port → Type 0
HeldAt p = (zs : List ℤ) → SmallList (p.order * p.order) zs → T (says p.order zs) → Held p zs

-- there is such a matrix for every list
abbrev pub SomeAt : Port → Type 0
SomeAt p = (zs : List ℤ) → (m : p.Matrix) × AsFloats p.order zs (p.entries m)

-- at every order that the report takes; shown in proofs/Held.antt
pub record ComesBackHeld : Type 0 where
  pub held2 : HeldAt port2
  pub held3 : HeldAt port3
  pub held4 : HeldAt port4
  pub some2 : SomeAt port2
  pub some3 : SomeAt port3
  pub some4 : SomeAt port4
