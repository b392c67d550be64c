-- Comparison by `==` of floats with exact values: it compares the values. Zero, the same power of two, and the values of numerically equal floats.
-- Assumes nothing.
use mathlib.Core.Path.{◌≡◌, refl, sym, ap, ap₂, ◌∙◌, subst}
use mathlib.Core.Bool.{Bool, true, false, beq, ◌||◌}
use mathlib.Core.Logic.{◌↔◌}
use Prim.Native.Nat.{ℕ, ◌*◌, ◌^◌}
use native.Mathlib.Nat.{mul-pos}
use lib.Dec.{T, eqb, eqb→eq}
use lib.IntN.{ℤ, pos, ◌*ℤ◌, zero-*ℤ}
use lib.Pow.{pow_pos}
use lib.Ieee.{Float, nan, inf, fin, up, down, level, eq}
use lib.Ieee.Fits.{down_pos, and_l, and_r, and_i, eq→eqb}
use Rattle.whole.proofs.Ring.{mul_cancel, no_zero_divisor}
use Rattle.exact.specs.Value.{Exact, exactly, Equal, signed}
use Rattle.exact.proofs.Signed.{signed_scale, signed_zero, signed_magnitude, signed_opposite}
use Rattle.exact.proofs.Value.{sorted, swap_last}

-- ---- a sign and a magnitude
-- equal signs, by the test
like_signs : (s t : Bool) → T (beq s t) → s ≡ t
like_signs true true h = refl
like_signs true false h = absurd h
like_signs false true h = absurd h
like_signs false false h = refl

-- magnitudes that are level have equal numbers
level→equal : (s t : Bool) (a b : ℕ) → T (level s a t b) → signed s a ≡ signed t b
level→equal s t a b h = by_sign (beq s t) (like_signs s t) (eqb→eq a b (and_l (eqb a b) (beq s t || eqb a 0) h)) (and_r (eqb a b) (beq s t || eqb a 0) h)
  where
    by_sign : (c : Bool) → (T c → s ≡ t) → a ≡ b → T (c || eqb a 0) → signed s a ≡ signed t b
    by_sign true like e u = ap₂ signed (like tt) e
    by_sign false like e u = signed_zero s a (eqb→eq a 0 u) ∙ sym (signed_zero t b (sym e ∙ eqb→eq a 0 u))

-- equal numbers have level magnitudes
equal→level : (s t : Bool) (a b : ℕ) → signed s a ≡ signed t b → T (level s a t b)
equal→level true true a b h = and_i (eqb a b) true (eq→eqb (signed_magnitude true true a b h)) tt
equal→level true false a b h =
    let e = signed_magnitude true false a b h in
    and_i (eqb a b) (eqb a 0) (eq→eqb e) (eq→eqb (e ∙ signed_opposite b a (sym h)))
equal→level false true a b h = and_i (eqb a b) (eqb a 0) (eq→eqb (signed_magnitude false true a b h)) (eq→eqb (signed_opposite a b h))
equal→level false false a b h = and_i (eqb a b) true (eq→eqb (signed_magnitude false false a b h)) tt

-- two finite floats are numerically equal exactly if their values are equal, multiplied across
equal_finite : (s t : Bool) (m n : ℕ) (e d : ℤ) → Equal (fin s m e) (fin t n d) ↔ (signed s (m * up e) *ℤ pos (down d) ≡ signed t (n * up d) *ℤ pos (down e))
unfolding eq
equal_finite s t m n e d = (
  λ h. sym (signed_scale s (m * up e) (down d)) ∙ level→equal s t (m * up e * down d) (n * up d * down e) h ∙ signed_scale t (n * up d) (down e),
  λ h. equal→level s t (m * up e * down d) (n * up d * down e) (signed_scale s (m * up e) (down d) ∙ h ∙ sym (signed_scale t (n * up d) (down e))),
)

-- ---- values
-- X / E is a / J and Y / D is b / K: the first two over one denominator go with the last two over one
pub crossing : (X Y a b E D J K : ℤ) → X *ℤ J ≡ a *ℤ E → Y *ℤ K ≡ b *ℤ D
    → ((X *ℤ D) *ℤ (J *ℤ K) ≡ (a *ℤ K) *ℤ (E *ℤ D)) × ((Y *ℤ E) *ℤ (J *ℤ K) ≡ (b *ℤ J) *ℤ (E *ℤ D))
crossing X Y a b E D J K g h =
    let from-X : (X *ℤ D) *ℤ (J *ℤ K) ≡ (X *ℤ J) *ℤ (D *ℤ K) = simp sorted in
    let to-a : (a *ℤ E) *ℤ (D *ℤ K) ≡ (a *ℤ K) *ℤ (E *ℤ D) = simp sorted in
    let from-Y : (Y *ℤ E) *ℤ (J *ℤ K) ≡ (Y *ℤ K) *ℤ (E *ℤ J) = simp sorted in
    let to-b : (b *ℤ D) *ℤ (E *ℤ J) ≡ (b *ℤ J) *ℤ (E *ℤ D) = simp sorted in
    (from-X ∙ ap (λ (w : ℤ). w *ℤ (D *ℤ K)) g ∙ to-a, from-Y ∙ ap (λ (w : ℤ). w *ℤ (E *ℤ J)) h ∙ to-b)

-- floats with exact values are numerically equal exactly if the values are equal, multiplied across
pub exact_equal : {x y : Float} {a b : ℤ} {j k : ℕ} → Exact x a j → Exact y b k → Equal x y ↔ (a *ℤ pos (2 ^ k) ≡ b *ℤ pos (2 ^ j))
exact_equal (exactly {s} {m} {e} {z = a} {k = j} g) (exactly {s = t} {m = n} {e = d} {z = b} {k = k} h) =
    let X = signed s (m * up e) in
    let Y = signed t (n * up d) in
    let E = pos (down e) in
    let D = pos (down d) in
    let J = pos (2 ^ j) in
    let K = pos (2 ^ k) in
    let c = crossing X Y a b E D J K g h in (
      λ v. mul_cancel (a *ℤ K) (b *ℤ J) (E *ℤ D) (mul-pos (down_pos e) (down_pos d)) (sym c.0 ∙ ap (λ (w : ℤ). w *ℤ (J *ℤ K)) ((equal_finite s t m n e d).0 v) ∙ c.1),
      λ q. (equal_finite s t m n e d).1 (mul_cancel (X *ℤ D) (Y *ℤ E) (J *ℤ K) (mul-pos (pow_pos j) (pow_pos k)) (c.0 ∙ ap (λ (w : ℤ). w *ℤ (E *ℤ D)) q ∙ sym c.1)),
    )

-- over one power of two, floats are numerically equal exactly if the numerators are equal
pub exact_equal_same : {x y : Float} {a b : ℤ} {k : ℕ} → Exact x a k → Exact y b k → Equal x y ↔ (a ≡ b)
exact_equal_same {a = a} {b = b} {k = k} g h = (
  λ v. mul_cancel a b (pos (2 ^ k)) (pow_pos k) ((exact_equal g h).0 v),
  λ q. (exact_equal g h).1 (ap (λ (w : ℤ). w *ℤ pos (2 ^ k)) q),
)

-- a float is numerically equal to 0 exactly if its numerator is 0
pub exact_equal_zero : {x y : Float} {a : ℤ} {j k : ℕ} → Exact x a k → Exact y (pos 0) j → Equal x y ↔ (a ≡ pos 0)
exact_equal_zero {a = a} {j = j} {k = k} g h = (
  λ v. no_zero_divisor a (pos (2 ^ j)) ((exact_equal g h).0 v ∙ zero-*ℤ (pos (2 ^ k))) (pow_pos j),
  λ q. (exact_equal g h).1 (ap (λ (w : ℤ). w *ℤ pos (2 ^ j)) q ∙ zero-*ℤ (pos (2 ^ j)) ∙ sym (zero-*ℤ (pos (2 ^ k)))),
)

-- floats of one value are numerically equal; so a float with an exact value is equal to itself
pub same_value : {x y : Float} {a : ℤ} {k : ℕ} → Exact x a k → Exact y a k → Equal x y
same_value g h = (exact_equal_same g h).1 refl

-- a float that is numerically equal to one with an exact value has that value
pub exact_of_equal : {x : Float} (y : Float) {a : ℤ} {k : ℕ} → Equal x y → Exact x a k → Exact y a k
unfolding eq
exact_of_equal nan v (exactly g) = absurd v
exact_of_equal (inf t) v (exactly g) = absurd v
exact_of_equal (fin t n d) v (exactly {s} {m} {e} {z = a} {k = k} g) =
    let X = signed s (m * up e) in
    let Y = signed t (n * up d) in
    let E = pos (down e) in
    let D = pos (down d) in
    let K = pos (2 ^ k) in
    exactly
    (mul_cancel (Y *ℤ K) (a *ℤ D) E (down_pos e)
    (swap_last Y K E ∙ ap (λ (w : ℤ). w *ℤ K) (sym ((equal_finite s t m n e d).0 v)) ∙ swap_last X D K ∙ ap (λ (w : ℤ). w *ℤ D) g ∙ swap_last a E D))

-- what is numerically equal is so both ways round
pub equal_symmetric : (x y : Float) → Equal x y → Equal y x
unfolding eq
equal_symmetric nan y h = absurd h
equal_symmetric (inf s) nan h = absurd h
equal_symmetric (inf s) (inf t) h = subst (λ (u : Bool). T (beq u s)) (like_signs s t h) (same_sign s)
  where
    same_sign : (s : Bool) → T (beq s s)
    same_sign true = tt
    same_sign false = tt
equal_symmetric (inf s) (fin t n d) h = absurd h
equal_symmetric (fin s m e) nan h = absurd h
equal_symmetric (fin s m e) (inf t) h = absurd h
equal_symmetric (fin s m e) (fin t n d) h = (equal_finite t s n m d e).1 (sym ((equal_finite s t m n e d).0 h))
