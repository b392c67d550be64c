-- What holds at every step of a formula's computation, not at its end alone: where the tests pass, each part's float reading is exact and within a limit.
-- Over the format, the bounds and the powers of two below the line. Assumes nothing.
use mathlib.Core.Bool.{Bool, ◌&&◌}
use Prim.Native.Nat.{ℕ, ◌≤◌, ◌<◌}
use lib.Dec.{T, leb, leb→le}
use lib.IntN.{ℤ}
use lib.Ieee.{Float, Format}
use lib.Ieee.Fits.{and_l, and_r}
use Rattle.whole.proofs.Formula.{Formula, var, con, ◌⊕◌, ◌⊖◌, ◌⊗◌, ⊝, in_whole, bound}
use Rattle.exact.proofs.Known.{Known, known_within}
use Rattle.exact.proofs.Reading.{in_float, places, weight, stays_exact, exact_formula, whole_formula, sum_parts, product_parts}

-- P holds at every step: of the formula, and of each part that it is made of
abbrev pub EachStep : (Formula → Type 0) → Formula → Type 0
EachStep P (var i) = P (var i)
EachStep P (con z) = P (con z)
EachStep P (d ⊕ e) = P (d ⊕ e) × EachStep P d × EachStep P e
EachStep P (d ⊖ e) = P (d ⊖ e) × EachStep P d × EachStep P e
EachStep P (d ⊗ e) = P (d ⊗ e) × EachStep P d × EachStep P e
EachStep P (⊝ e) = P (⊝ e) × EachStep P e

-- the test: the bound of every step is within the limit
abbrev pub steps_within : (ℕ → ℕ) → ℕ → Formula → Bool
steps_within β limit (var i) = leb (β i) limit
steps_within β limit (con z) = leb (bound β (con z)) limit
steps_within β limit (d ⊕ e) = leb (bound β (d ⊕ e)) limit && (steps_within β limit d && steps_within β limit e)
steps_within β limit (d ⊖ e) = leb (bound β (d ⊖ e)) limit && (steps_within β limit d && steps_within β limit e)
steps_within β limit (d ⊗ e) = leb (bound β (d ⊗ e)) limit && (steps_within β limit d && steps_within β limit e)
steps_within β limit (⊝ e) = leb (bound β (⊝ e)) limit && steps_within β limit e

-- where every step's bound is within the limit, so are the bounds of the two parts
near_parts : (β : ℕ → ℕ) (limit b : ℕ) (d e : Formula) → T (leb b limit && (steps_within β limit d && steps_within β limit e)) → (b ≤ limit) × T (steps_within β limit d) × T (steps_within β limit e)
near_parts β limit b d e t =
    let D = steps_within β limit d in
    let E = steps_within β limit e in
    let parts = and_r (leb b limit) (D && E) t in
    (leb→le b limit (and_l (leb b limit) (D && E) t), and_l D E parts, and_r D E parts)

-- what follows from the test on a formula that is within the limit holds at every step
module _ (f : Format) (n K : ℕ) (w β : ℕ → ℕ) (limit : ℕ) (P : Formula → Type 0) (holds : (d : Formula) → T (stays_exact f n K w β d) → bound β d ≤ limit → P d) where
  pub each_step : (e : Formula) → T (stays_exact f n K w β e) → T (steps_within β limit e) → EachStep P e
  each_step (var i) t s = holds (var i) t (leb→le (β i) limit s)
  each_step (con z) t s = holds (con z) t (leb→le (bound β (con z)) limit s)
  each_step (d ⊕ e) t s =
      let p = sum_parts f n K w β d e t in
      let q = near_parts β limit (bound β (d ⊕ e)) d e s in (holds (d ⊕ e) t q.0, each_step d p.0 q.1, each_step e p.1 q.2)
  each_step (d ⊖ e) t s =
      let p = sum_parts f n K w β d e t in
      let q = near_parts β limit (bound β (d ⊖ e)) d e s in (holds (d ⊖ e) t q.0, each_step d p.0 q.1, each_step e p.1 q.2)
  each_step (d ⊗ e) t s =
      let p = product_parts f n K w β d e t in
      let q = near_parts β limit (bound β (d ⊗ e)) d e s in (holds (d ⊗ e) t q.0, each_step d p.0 q.1, each_step e p.1 q.2)
  each_step (⊝ e) t s =
      let A = leb (bound β (⊝ e)) limit in
      (holds (⊝ e) t (leb→le (bound β (⊝ e)) limit (and_l A (steps_within β limit e) s)), each_step e t (and_r A (steps_within β limit e) s))

-- so each step is exact, its numerator within the limit
pub exact_steps : (f : Format) (n K : ℕ) (w β : ℕ → ℕ) (k : ℕ) → k ≤ K → (ρ : ℕ → Float) (ζ : ℕ → ℤ) → ((i : ℕ) → i < n → Known (ρ i) (ζ i) (places (w i) k) (β i))
    → (limit : ℕ) (e : Formula) → T (stays_exact f n K w β e) → T (steps_within β limit e) → EachStep (λ d. Known (in_float f ρ d) (in_whole ζ d) (places (weight w d) k) limit) e
exact_steps f n K w β k few ρ ζ known limit =
    each_step f n K w β limit (λ d. Known (in_float f ρ d) (in_whole ζ d) (places (weight w d) k) limit) (λ d t l. known_within l (exact_formula f n K w β k few ρ ζ known d t))

-- the same for whole numbers
pub whole_steps : (f : Format) (n : ℕ) (β : ℕ → ℕ) (ρ : ℕ → Float) (ζ : ℕ → ℤ) → ((i : ℕ) → i < n → Known (ρ i) (ζ i) 0 (β i))
    → (limit : ℕ) (e : Formula) → T (stays_exact f n 0 (λ i. 0) β e) → T (steps_within β limit e) → EachStep (λ d. Known (in_float f ρ d) (in_whole ζ d) 0 limit) e
whole_steps f n β ρ ζ known limit =
    each_step f n 0 (λ i. 0) β limit (λ d. Known (in_float f ρ d) (in_whole ζ d) 0 limit) (λ d t l. known_within l (whole_formula f n β ρ ζ known d t))
