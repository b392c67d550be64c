-- Which quotients of floats with exact values are exact: in general, and by plus or minus a power of two, directly and through its reciprocal. Over the format.
-- Assumes nothing.
use mathlib.Core.Path.{◌≡◌, sym, ap, ◌∙◌, subst, subst₂}
use mathlib.Core.Bool.{Bool, true, false, cond}
use Prim.Native.Nat.{ℕ, zero, suc, ◌+◌, ◌*◌, ◌^◌, ◌≤◌, ◌<◌}
use native.Mathlib.Nat.{mul-pos, mul-one as one_factor, zero-lt-suc, zero-mul, zero-add, le_trans, le-add_left}
use lib.Dec.{eqb, eqb-suc-zero}
use lib.IntN.{ℤ, pos, ◌*ℤ◌, nat_abs, zero-*ℤ, *ℤ_comm}
use lib.Pow.{pow-add, pow_pos}
use lib.Ieee.{Float, nan, inf, Format, prec, low, up, down, unlike, round, mul, div}
use lib.Ieee.Fits.{up_pos, down_pos}
use Rattle.whole.proofs.Ring.{one_mul, mul_one, mul_cancel, NonZero, not_both, no_zero_divisor}
use Rattle.exact.specs.Value.{Exact, exactly, signed}
use Rattle.exact.proofs.Signed.{signed_mul, signed_scale, signed_zero, sign_of, sign_times, abs_sign_mul}
use Rattle.exact.proofs.Value.{sorted}
use Rattle.exact.proofs.Bounds.{one_small}
use Rattle.exact.proofs.Rounding.{exact_round}
use Rattle.exact.proofs.Operations.{exact_product}

-- the sign of a quotient, as the divisor's 1 or -1 times the dividend
signed_unit : (s t : Bool) (n : ℕ) → signed (unlike s t) n ≡ signed t 1 *ℤ signed s n
signed_unit s t n = ap (signed (unlike s t)) (sym (one_factor n)) ∙ signed_mul s t n 1 ∙ *ℤ_comm (signed s n) (signed t 1)

-- a magnitude is the number times 1 or -1
magnitude_unit : (t : Bool) (n : ℕ) → pos n ≡ signed t 1 *ℤ signed t n
magnitude_unit true n = signed_unit true true n
magnitude_unit false n = signed_unit false false n

-- the quotient of the fractions a / J and b / K is c / L, so that of X / E and Y / D is
quotients : (u X Y a b c E D J K L : ℤ) → X *ℤ J ≡ a *ℤ E → Y *ℤ K ≡ b *ℤ D → a *ℤ (K *ℤ L) ≡ c *ℤ b *ℤ J
    → (u *ℤ (X *ℤ D)) *ℤ L *ℤ (J *ℤ K) ≡ c *ℤ ((u *ℤ Y) *ℤ E) *ℤ (J *ℤ K)
quotients u X Y a b c E D J K L g h q =
    let to-a : (u *ℤ (X *ℤ D)) *ℤ L *ℤ (J *ℤ K) ≡ (X *ℤ J) *ℤ (u *ℤ (D *ℤ (K *ℤ L))) = simp sorted in
    let to-c : (a *ℤ E) *ℤ (u *ℤ (D *ℤ (K *ℤ L))) ≡ (a *ℤ (K *ℤ L)) *ℤ (u *ℤ (D *ℤ E)) = simp sorted in
    let to-b : (c *ℤ b *ℤ J) *ℤ (u *ℤ (D *ℤ E)) ≡ (b *ℤ D) *ℤ (c *ℤ (u *ℤ (E *ℤ J))) = simp sorted in
    let to-Y : (Y *ℤ K) *ℤ (c *ℤ (u *ℤ (E *ℤ J))) ≡ c *ℤ ((u *ℤ Y) *ℤ E) *ℤ (J *ℤ K) = simp sorted in
    to-a
    ∙ ap (λ (w : ℤ). w *ℤ (u *ℤ (D *ℤ (K *ℤ L)))) g
    ∙ to-c
    ∙ ap (λ (w : ℤ). w *ℤ (u *ℤ (D *ℤ E))) q
    ∙ to-b
    ∙ ap (λ (w : ℤ). w *ℤ (c *ℤ (u *ℤ (E *ℤ J)))) (sym h)
    ∙ to-Y

-- a quotient is exact where its value is c / 2 ^ l with c below 2 ^ prec
pub exact_quotient : (f : Format) {x y : Float} {a b : ℤ} {j k : ℕ} (c : ℤ) (l : ℕ) → Exact x a j → Exact y b k → NonZero b
    → a *ℤ (pos (2 ^ k) *ℤ pos (2 ^ l)) ≡ c *ℤ b *ℤ pos (2 ^ j) → nat_abs c < 2 ^ prec f → l ≤ low f → Exact (div f x y) c l
unfolding div
exact_quotient f c l (exactly g) (exactly {s = t} {m = zero} {e = d} {z = b} {k = k} h) nonzero q small fine =
    let none : signed t (0 * up d) *ℤ pos (2 ^ k) ≡ pos 0 = ap (λ (w : ℤ). w *ℤ pos (2 ^ k)) (signed_zero t (0 * up d) (zero-mul (up d))) ∙ zero-*ℤ (pos (2 ^ k)) in
    absurd (not_both b (no_zero_divisor b (pos (down d)) (sym h ∙ none) (down_pos d)) nonzero)
exact_quotient f c l (exactly {s} {m} {e} {z = a} {k = j} g) (exactly {s = t} {m = suc n} {e = d} {z = b} {k = k} h) nonzero q small fine =
    let num = m * up e * down d in
    let den = suc n * up d * down e in
    let J = pos (2 ^ j) in
    let K = pos (2 ^ k) in
    let L = pos (2 ^ l) in
    subst (λ (v : Bool). Exact (cond v (cond (eqb m 0) nan (inf (unlike s t))) (round f (unlike s t) num den)) c l) (sym (eqb-suc-zero n))
    (exact_round f (unlike s t) num den c (mul-pos (mul-pos (zero-lt-suc n) (up_pos d)) (down_pos e)) small fine
    (mul_cancel (signed (unlike s t) num *ℤ L) (c *ℤ pos den) (J *ℤ K) (mul-pos (pow_pos j) (pow_pos k))
    (ap (λ (w : ℤ). w *ℤ L *ℤ (J *ℤ K)) (signed_unit s t num ∙ ap (λ (w : ℤ). signed t 1 *ℤ w) (signed_scale s (m * up e) (down d)))
    ∙ quotients (signed t 1) (signed s (m * up e)) (signed t (suc n * up d)) a b c (pos (down e)) (pos (down d)) J K L g h q
    ∙ ap (λ (w : ℤ). c *ℤ (w *ℤ pos (down e)) *ℤ (J *ℤ K)) (sym (magnitude_unit t (suc n * up d))))))

-- ---- plus or minus a power of two
-- a quotient by plus or minus 2 ^ k, the divisor's sign a factor of the numerator
pub exact_quotient_by_power : (f : Format) {x d : Float} {a b : ℤ} {j : ℕ} (k : ℕ) → Exact x a j → Exact d b 0 → nat_abs b ≡ 2 ^ k
    → nat_abs a < 2 ^ prec f → j + k ≤ low f → Exact (div f x d) (sign_of b *ℤ a) (j + k)
exact_quotient_by_power f {a = a} {b = b} {j = j} k g h power small fine =
    exact_quotient f (sign_of b *ℤ a) (j + k) g h (subst (λ (n : ℕ). 0 < n) (sym power) (pow_pos k)) across
    (subst (λ (n : ℕ). n < 2 ^ prec f) (sym (abs_sign_mul b a)) small) fine
  where
    across : a *ℤ (pos 1 *ℤ pos (2 ^ (j + k))) ≡ sign_of b *ℤ a *ℤ b *ℤ pos (2 ^ j)
    across =
        let factors : a *ℤ (pos (2 ^ j) *ℤ (sign_of b *ℤ b)) ≡ sign_of b *ℤ a *ℤ b *ℤ pos (2 ^ j) = simp sorted in
        ap (λ (w : ℤ). a *ℤ w) (one_mul (pos (2 ^ (j + k))) ∙ ap pos (pow-add 2 j k))
        ∙ ap (λ (w : ℤ). a *ℤ (pos (2 ^ j) *ℤ w)) (sym (sign_times b ∙ ap pos power))
        ∙ factors

-- the reciprocal of plus or minus 2 ^ k
pub exact_reciprocal : (f : Format) {one d : Float} {b : ℤ} (k : ℕ) → Exact one (pos 1) 0 → Exact d b 0 → nat_abs b ≡ 2 ^ k → k ≤ low f → Exact (div f one d) (sign_of b) k
exact_reciprocal f {one} {d} {b} k g h power fine =
    subst₂ (Exact (div f one d)) (mul_one (sign_of b)) (zero-add k)
    (exact_quotient_by_power f k g h power (one_small f) (subst (λ (n : ℕ). n ≤ low f) (sym (zero-add k)) fine))

-- a product with the reciprocal of plus or minus 2 ^ k: what the quotient is
pub exact_times_reciprocal : (f : Format) {x one d : Float} {a b : ℤ} {j : ℕ} (k : ℕ) → Exact x a j → Exact one (pos 1) 0 → Exact d b 0 → nat_abs b ≡ 2 ^ k
    → nat_abs a < 2 ^ prec f → j + k ≤ low f → Exact (mul f x (div f one d)) (a *ℤ sign_of b) (j + k)
exact_times_reciprocal f {a = a} {b = b} k g o h power small fine =
    exact_product f g (exact_reciprocal f k o h power (le_trans (le-add_left k _) fine))
    (subst (λ (n : ℕ). n < 2 ^ prec f) (sym (ap nat_abs (*ℤ_comm a (sign_of b)) ∙ abs_sign_mul b a)) small) fine
