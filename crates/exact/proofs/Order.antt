-- Comparison by `<` and `<=` of floats with exact values: it compares the values.
-- Assumes nothing.
use mathlib.Core.Path.{◌≡◌, sym, ap, subst, subst₂}
use mathlib.Core.Bool.{Bool, true, false, not, ◌||◌}
use mathlib.Core.Logic.{◌↔◌, ◌⊎◌, inl, inr, ⊎_elim}
use Prim.Native.Nat.{ℕ, zero, suc, ◌*◌, ◌^◌, ◌≤◌, ◌<◌, suc-le-suc}
use native.Mathlib.Nat.{mul-pos, mul-lt-mul_of_pos_right, lt_of_mul-lt-mul_right, zero-lt-suc, le_of_suc-le-suc, le_of_lt}
use native.Mathlib.Omega.{arith}
use lib.Dec.{T, ltb, ltb→lt, lt→ltb, nltb→le, leb→le, le→leb}
use lib.IntN.{ℤ, pos, negsuc, ◌*ℤ◌}
use lib.Signed.{lt_z, ◌<ℤ◌, ◌≤ℤ◌, lt_z_yes, ≤ℤ_refl}
use lib.Pow.{pow_pos}
use lib.Ieee.{Float, fin, up, down, below, lt, le, eq}
use lib.Ieee.Fits.{down_pos}
use Rattle.exact.specs.Value.{Exact, exactly, signed}
use Rattle.exact.proofs.Signed.{signed_scale}
use Rattle.exact.proofs.Compare.{crossing, exact_equal}

-- ---- a sign and a magnitude
-- the tests of natural numbers, for `omega`
ruleset tests = (arith, ltb→lt, lt→ltb)

-- u < v, by the test
abbrev Less : ℤ → ℤ → Type 0
Less u v = T (lt_z u v)

-- the test of magnitudes with signs is that of the numbers
below_signed : (s t : Bool) (a b : ℕ) → T (below s a t b) ↔ Less (signed s a) (signed t b)
below_signed false false a b = (λ h. h, λ h. h)
below_signed false true a zero = (λ h. absurd h, λ h. absurd (omega tests))
below_signed false true a (suc b) = (λ h. h, λ h. h)
below_signed true false zero b = (λ h. omega tests, λ h. omega tests)
below_signed true false (suc a) b = (λ h. tt, λ h. omega tests)
below_signed true true zero zero = (λ h. h, λ h. h)
below_signed true true zero (suc b) = (λ h. absurd (omega tests), λ h. absurd h)
below_signed true true (suc a) zero = (λ h. tt, λ h. omega tests)
below_signed true true (suc a) (suc b) = (λ h. omega tests, λ h. omega tests)

-- the order of magnitudes times a factor
magnitudes : (a b c : ℕ) → 0 < c → (a < b) ↔ T (ltb (a * c) (b * c))
magnitudes a b c positive = (λ h. lt→ltb (a * c) (b * c) (mul-lt-mul_of_pos_right h positive), λ h. lt_of_mul-lt-mul_right c (ltb→lt (a * c) (b * c) h))

-- the order of numbers times a factor above 0
scaled : (u v : ℤ) (c : ℕ) → 0 < c → Less u v ↔ Less (u *ℤ pos c) (v *ℤ pos c)
scaled (pos a) (pos b) c positive = (λ h. (magnitudes a b c positive).0 (ltb→lt a b h), λ h. lt→ltb a b ((magnitudes a b c positive).1 h))
scaled (pos a) (negsuc b) c positive = (λ h. absurd h, (below_signed false true (a * c) (suc b * c)).1)
scaled (negsuc a) (pos b) c positive =
    let l : 0 < suc a * c = mul-pos (zero-lt-suc a) positive in
    (λ h. (below_signed true false (suc a * c) (b * c)).0 (omega tests), λ h. tt)
scaled (negsuc a) (negsuc b) c positive =
    let numbers = below_signed true true (suc a * c) (suc b * c) in
    let sizes = magnitudes (suc b) (suc a) c positive in
    (λ h. numbers.0 (sizes.0 (suc-le-suc (ltb→lt b a h))), λ h. lt→ltb b a (le_of_suc-le-suc (sizes.1 (numbers.1 h))))

-- of two finite floats the first is less exactly if its value is, multiplied across
less_finite : (s t : Bool) (m n : ℕ) (e d : ℤ) → T (lt (fin s m e) (fin t n d)) ↔ Less (signed s (m * up e) *ℤ pos (down d)) (signed t (n * up d) *ℤ pos (down e))
unfolding lt
less_finite s t m n e d =
    let A = m * up e * down d in
    let B = n * up d * down e in
    let left = signed_scale s (m * up e) (down d) in
    let right = signed_scale t (n * up d) (down e) in
    (λ h. subst₂ Less left right ((below_signed s t A B).0 h), λ h. (below_signed s t A B).1 (subst₂ Less (sym left) (sym right) h))

-- ---- values
-- of floats with exact values the first is less exactly if its value is, multiplied across
pub exact_less : {x y : Float} {a b : ℤ} {j k : ℕ} → Exact x a j → Exact y b k → T (lt x y) ↔ ((a *ℤ pos (2 ^ k)) <ℤ (b *ℤ pos (2 ^ j)))
exact_less (exactly {s} {m} {e} {z = a} {k = j} g) (exactly {s = t} {m = n} {e = d} {z = b} {k = k} h) =
    let X = signed s (m * up e) in
    let Y = signed t (n * up d) in
    let E = pos (down e) in
    let D = pos (down d) in
    let J = pos (2 ^ j) in
    let K = pos (2 ^ k) in
    let c = crossing X Y a b E D J K g h in
    let floats = scaled (X *ℤ D) (Y *ℤ E) (2 ^ j * 2 ^ k) (mul-pos (pow_pos j) (pow_pos k)) in
    let values = scaled (a *ℤ K) (b *ℤ J) (down e * down d) (mul-pos (down_pos e) (down_pos d)) in (
      λ v. record { lt = values.1 (subst₂ Less c.0 c.1 (floats.0 ((less_finite s t m n e d).0 v))) },
      λ q. (less_finite s t m n e d).1 (floats.1 (subst₂ Less (sym c.0) (sym c.1) (values.0 q.lt))),
    )

-- what is less is at most
less_at_most : (u v : ℤ) → u <ℤ v → u ≤ℤ v
less_at_most (pos a) (pos b) h = record { le = le→leb a b (le_of_lt (ltb→lt a b h.lt)) }
less_at_most (pos a) (negsuc b) h = absurd h.lt
less_at_most (negsuc a) (pos b) h = record { le = tt }
less_at_most (negsuc a) (negsuc b) h = record { le = le→leb b a (le_of_lt (ltb→lt b a h.lt)) }

-- of two natural numbers, the first at most the second, it is less or equal
less_or_equal : (a b : ℕ) → a ≤ b → T (ltb a b) ⊎ (a ≡ b)
less_or_equal a b l = by_test (ltb a b) (nltb→le a b)
  where
    by_test : (c : Bool) → (T (not c) → b ≤ a) → T c ⊎ (a ≡ b)
    by_test true more = inl tt
    by_test false more = let m : b ≤ a = more tt in inr (omega arith)

-- what is at most is less or equal
at_most_cases : (u v : ℤ) → u ≤ℤ v → (u <ℤ v) ⊎ (u ≡ v)
at_most_cases (pos a) (pos b) h = ⊎_elim (λ t. inl (lt_z_yes t)) (λ e. inr (ap pos e)) (less_or_equal a b (leb→le a b h.le))
at_most_cases (pos a) (negsuc b) h = absurd h.le
at_most_cases (negsuc a) (pos b) h = inl (record { lt = tt })
at_most_cases (negsuc a) (negsuc b) h = ⊎_elim (λ t. inl (lt_z_yes t)) (λ e. inr (ap negsuc (sym e))) (less_or_equal b a (leb→le b a h.le))

-- one of two tests passes
either : (p q : Bool) → T (p || q) ↔ (T p ⊎ T q)
either true q = (λ t. inl tt, λ t. tt)
either false q = (λ t. inr t, ⊎_elim (λ t. absurd t) (λ t. t))

-- of floats with exact values the first is at most the second exactly if its value is, multiplied across
pub exact_at_most : {x y : Float} {a b : ℤ} {j k : ℕ} → Exact x a j → Exact y b k → T (le x y) ↔ ((a *ℤ pos (2 ^ k)) ≤ℤ (b *ℤ pos (2 ^ j)))
unfolding le
exact_at_most {x} {y} {a} {b} {j} {k} g h =
    let u = a *ℤ pos (2 ^ k) in
    let v = b *ℤ pos (2 ^ j) in (
      λ t. ⊎_elim (λ l. less_at_most u v ((exact_less g h).0 l)) (λ e. subst (λ (w : ℤ). u ≤ℤ w) ((exact_equal g h).0 e) (≤ℤ_refl u)) ((either (lt x y) (eq x y)).0 t),
      λ l. (either (lt x y) (eq x y)).1 (⊎_elim (λ m. inl ((exact_less g h).1 m)) (λ e. inr ((exact_equal g h).1 e)) (at_most_cases u v l)),
    )
