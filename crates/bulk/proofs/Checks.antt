-- What the tests of a bulk move say: each on both sides of its edge, and what holds where none refuses.
-- Assumes nothing.
use mathlib.Core.Path.{◌≡◌, refl, sym}
use mathlib.Core.Bool.{Bool, true, false, ◌&&◌}
use Prim.Native.Nat.{ℕ, ◌+◌, ◌<◌, ◌≤◌}
use native.Mathlib.Omega.{arith}
use borrow.Author.Tests.{le-leb, lt-leb, leb-true, eq-eqb, ne_eqb, eqb-true}
use Rattle.vector.specs.declared.refusal.Refusal.{Refusal}
use Rattle.vector.specs.declared.refusal.Refusal.TheVariants.{Order}
use Rattle.vector.specs.Refusals.{given, refused_for}
use Rattle.vector.proofs.Checks.{passed}
use Rattle.matrix.proofs.Ranges.{both}
use Rattle.bulk.specs.Refusals.{order_from, number_is, Lengths, move_fits, Fits}

-- ---- the order

pub order_taken : (least order : ℕ) → least ≤ order → order ≤ 4 → order_from least order ≡ given tt
unfolding order_from
order_taken least order low high = simp (le-leb least order low, le-leb order 4 high)

pub order_low : (least order : ℕ) → order < least → order_from least order ≡ refused_for Order
unfolding order_from
order_low least order low = simp (lt-leb least order low)

pub order_high : (least order : ℕ) → least ≤ order → 4 < order → order_from least order ≡ refused_for Order
unfolding order_from
order_high least order low high = simp (le-leb least order low, lt-leb order 4 high)

-- ---- a length

pub length_right : (cause : Refusal) (length wanted : ℕ) → length ≡ wanted → number_is cause length wanted ≡ given tt
unfolding number_is
length_right cause length wanted e = simp (eq-eqb length wanted e)

pub length_wrong : (cause : Refusal) (length wanted : ℕ) → (length ≡ wanted → ⊥) → number_is cause length wanted ≡ refused_for cause
unfolding number_is
length_wrong cause length wanted ne = simp (ne_eqb length wanted ne)

-- ---- where none refuses

pub both_true : (a b : Bool) → (a && b) ≡ true → (a ≡ true) × (b ≡ true)
both_true true b e = (refl, e)
both_true false b e = let none : ◌≡◌ {A = ℕ} 0 1 = cc in absurd (omega arith)

pub order_is : (least order : ℕ) → order_from least order ≡ given tt → (least ≤ order) × (order ≤ 4)
unfolding order_from
order_is least order e =
    let t = both_true _ _ (passed _ _ e) in
    (leb-true least order t.0, leb-true order 4 t.1)

pub length_is : (cause : Refusal) (length wanted : ℕ) → number_is cause length wanted ≡ given tt → length ≡ wanted
unfolding number_is
length_is cause length wanted e = eqb-true length wanted (passed _ _ e)

pub fitting : (short order : ℕ) (l : Lengths) → given tt ≡ move_fits short order l → Fits short order l
unfolding move_fits
fitting short order l e =
    let a = both _ _ e in
    let b = both _ _ (sym a.1) in
    let c = both _ _ (sym b.1) in
    let o = order_is (2 + short) order a.0 in
    record { least = o.0; most = o.1; square = length_is _ _ _ b.0; whole = length_is _ _ _ c.0; same = length_is _ _ _ c.1 }
