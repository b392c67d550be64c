-- A range test that found nothing bounds its numbers, at any order.
-- Assumes nothing.
use mathlib.Core.Path.{◌≡◌, refl, sym}
use Prim.Native.Nat.{ℕ, ◌*◌, ◌<◌, ◌≤◌}
use native.Mathlib.Nat.{mul-le-mul}
use native.Mathlib.Omega.{arith}
use Rattle.vector.specs.Refusals.{Outcome, given, refused, after}
use Rattle.vector.proofs.Checks.{passes}
use Rattle.matrix.specs.declared.places.Column.{Column}
use Rattle.matrix.specs.declared.places.Row.{Row}
use Rattle.matrix.specs.Places.{rows_below, columns_below, elements_below}

-- two checks, one after the other, pass where both do
pub both : (first second : Outcome Unit) → given tt ≡ after first second → (first ≡ given tt) × (second ≡ given tt)
both (given u) second e = (refl, sym e)
both (refused why) second e = let none : ◌≡◌ {A = ℕ} 0 1 = cc in absurd (omega arith)

-- both rows are below the order
pub rows_within : (n : ℕ) (a b : Row) → given tt ≡ rows_below n a b → (a.0 < n) × (b.0 < n)
unfolding rows_below
rows_within n a b e = let p = both _ _ e in (passes _ n _ p.0, passes _ n _ p.1)

-- both columns are below the order
pub columns_within : (n : ℕ) (a b : Column) → given tt ≡ columns_below n a b → (a.0 < n) × (b.0 < n)
unfolding columns_below
columns_within n a b e = let p = both _ _ e in (passes _ n _ p.0, passes _ n _ p.1)

-- both places are below the order
pub elements_within : (n : ℕ) (ac : Column) (ar : Row) (bc : Column) (br : Row) → given tt ≡ elements_below n ac ar bc br → (ac.0 < n) × (ar.0 < n) × (bc.0 < n) × (br.0 < n)
unfolding elements_below
elements_within n ac ar bc br e =
    let p = both _ _ e in
    let q = both _ _ (sym p.1) in
    let r = both _ _ (sym q.1) in
    (passes _ n _ p.0, passes _ n _ q.0, passes _ n _ r.0, passes _ n _ r.1)

-- an array of columns of an order up to 4 has a size that the machine can say
pub fits : (n : ℕ) → n ≤ 4 → (n * (n * 8) < 9223372036854775808) × (n * 8 < 9223372036854775808)
fits n most = let row : n * 8 ≤ 32 = omega (arith, most) in let square : n * (n * 8) ≤ 4 * 32 = mul-le-mul most row in (omega (arith, square), omega (arith, most))
