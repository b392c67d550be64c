-- The exact value of a float: every finite float has one, it is one value however it is written, and it can be written over another power of two.
-- Assumes nothing.
use mathlib.Core.Path.{◌≡◌, refl, sym, ap, ◌∙◌}
use mathlib.Core.Bool.{Bool}
use Prim.Native.Nat.{ℕ, suc, ◌+◌, ◌*◌, ◌^◌, ◌≤◌}
use native.Mathlib.Nat.{le_trans}
use lib.IntN.{ℤ, pos, negsuc, ◌*ℤ◌, *ℤ_comm}
use lib.Pow.{pow-add, pow_pos}
use lib.Ieee.{Float, fin, up, down}
use lib.Ieee.Fits.{down_pos}
use Rattle.whole.proofs.Ring.{*ℤ-assoc, *ℤ-left-comm, mul_one, mul_cancel}
use Rattle.exact.specs.Value.{Exact, exactly, Whole, signed}

-- the factors of a product, sorted
pub ruleset sorted = (*ℤ-assoc, *ℤ_comm, *ℤ-left-comm)

-- the last two of three factors change places
pub swap_last : (a b c : ℤ) → a *ℤ b *ℤ c ≡ a *ℤ c *ℤ b
swap_last a b c = simp sorted

-- X / E is a / J and b / K, so those two are equal
crossed : (X E a b J K : ℤ) → X *ℤ J ≡ a *ℤ E → X *ℤ K ≡ b *ℤ E → a *ℤ K *ℤ E ≡ b *ℤ J *ℤ E
crossed X E a b J K g h = swap_last a K E ∙ ap (λ (w : ℤ). w *ℤ K) (sym g) ∙ swap_last X J K ∙ ap (λ (w : ℤ). w *ℤ J) h ∙ swap_last b E J

-- every finite float has an exact value
pub exact_finite : (s : Bool) (m : ℕ) (e : ℤ) → (z : ℤ) × (k : ℕ) × Exact (fin s m e) z k
exact_finite s m (pos j) = (signed s (m * 2 ^ j), 0, exactly refl)
exact_finite s m (negsuc j) = (signed s (m * 1), suc j, exactly refl)

-- two ways to write the value of one float are equal, multiplied across
pub exact_across : {x : Float} {a b : ℤ} {j k : ℕ} → Exact x a j → Exact x b k → a *ℤ pos (2 ^ k) ≡ b *ℤ pos (2 ^ j)
exact_across (exactly {s} {m} {e} {z = a} {k = j} g) (exactly {z = b} {k = k} h) =
    mul_cancel (a *ℤ pos (2 ^ k)) (b *ℤ pos (2 ^ j)) (pos (down e)) (down_pos e)
    (crossed (signed s (m * up e)) (pos (down e)) a b (pos (2 ^ j)) (pos (2 ^ k)) g h)

-- over a given power of two the value of a float is one
pub exact_unique : {x : Float} {a b : ℤ} {k : ℕ} → Exact x a k → Exact x b k → a ≡ b
exact_unique {a = a} {b = b} {k = k} g h = mul_cancel a b (pos (2 ^ k)) (pow_pos k) (exact_across g h)

-- the value of a float, written over another power of two
pub exact_change : {x : Float} {a : ℤ} {j : ℕ} (b : ℤ) (k : ℕ) → a *ℤ pos (2 ^ k) ≡ b *ℤ pos (2 ^ j) → Exact x a j → Exact x b k
exact_change {a = a} {j = j} b k q (exactly {s} {m} {e} g) =
    let X = signed s (m * up e) in
    let E = pos (down e) in
    exactly
    (mul_cancel (X *ℤ pos (2 ^ k)) (b *ℤ E) (pos (2 ^ j)) (pow_pos j)
    (crossed a (pos (2 ^ j)) X b E (pos (2 ^ k)) (sym g) q))

-- the value of a float, written over a larger power of two
pub exact_raise : {x : Float} {a : ℤ} {k : ℕ} (i : ℕ) → Exact x a k → Exact x (a *ℤ pos (2 ^ i)) (k + i)
exact_raise {a = a} {k = k} i =
    let factors : a *ℤ (pos (2 ^ k) *ℤ pos (2 ^ i)) ≡ a *ℤ pos (2 ^ i) *ℤ pos (2 ^ k) = simp sorted in
    exact_change (a *ℤ pos (2 ^ i)) (k + i) (ap (λ (n : ℕ). a *ℤ pos n) (pow-add 2 k i) ∙ factors)

-- a whole number that is written over 2 ^ k
pub exact_whole : {x : Float} {a : ℤ} (k : ℕ) → Exact x (pos (2 ^ k) *ℤ a) k → Exact x a 0
exact_whole {a = a} k = exact_change a 0 (mul_one (pos (2 ^ k) *ℤ a) ∙ *ℤ_comm (pos (2 ^ k)) a)

-- a float is one whole number
pub whole_unique : {x : Float} {b c : ℕ} (g : Whole b x) (h : Whole c x) → g.number ≡ h.number
whole_unique g h = exact_unique g.exact h.exact

-- a whole number within a limit is within a larger one
pub whole_within : {x : Float} {b c : ℕ} → b ≤ c → Whole b x → Whole c x
whole_within l h = record { number = h.number; exact = h.exact; within = le_trans h.within l }
