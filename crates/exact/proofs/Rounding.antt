-- Rounding is exact at a fraction whose value is z / 2 ^ k, for a z of at most `prec` binary digits and a k of at most `low`. Over the format.
-- Assumes nothing.
use mathlib.Core.Path.{◌≡◌, sym, ap, ap₂, ◌∙◌}
use mathlib.Core.Bool.{Bool}
use Prim.Native.Nat.{ℕ, suc, ◌+◌, ◌-◌, ◌*◌, ◌^◌, ◌≤◌, ◌<◌}
use native.Mathlib.Nat.{mul_assoc, mul_comm, mul_left_comm, lt_of_lt_of_le}
use native.Mathlib.Omega.{arith}
use lib.IntN.{ℤ, pos, ◌*ℤ◌, nat_abs}
use lib.Pow.{pow-add, pow_mono, shl_lt}
use lib.Ieee.{Float, nan, inf, fin, Format, prec, emax, low, up, down, round}
use lib.Ieee.Fits.{reach}
use lib.Ieee.Exact.{HasValue, round_exact}
use Rattle.whole.proofs.Ring.{abs_mul, mul_cancel}
use Rattle.exact.specs.Value.{Exact, exactly, signed}
use Rattle.exact.proofs.Signed.{abs_signed, signed_scale}
use Rattle.exact.proofs.Value.{swap_last}

-- a float that is ±num / den has the exact value z / 2 ^ k, if that fraction is z / 2 ^ k
exact_fraction : (x : Float) (s : Bool) (num den k : ℕ) (z : ℤ) → 0 < den → signed s num *ℤ pos (2 ^ k) ≡ z *ℤ pos den → HasValue x s num den → Exact x z k
exact_fraction nan s num den k z positive q v = absurd v
exact_fraction (inf t) s num den k z positive q v = absurd v
exact_fraction (fin t m e) s num den k z positive q v =
    let X = signed t (m * up e) in
    let K = pos (2 ^ k) in
    let E = pos (down e) in
    let D = pos den in
    exactly
    (mul_cancel (X *ℤ K) (z *ℤ E) D positive
    (swap_last X K D
    ∙ ap (λ (w : ℤ). w *ℤ K) (sym (signed_scale t (m * up e) den) ∙ ap₂ signed v.0 v.1 ∙ signed_scale s num (down e))
    ∙ swap_last (signed s num) E K
    ∙ ap (λ (w : ℤ). w *ℤ E) q
    ∙ swap_last z D E))

-- a format reaches from 2 ^ -low to 2 ^ (emax + 1), so that z / 2 ^ k lies within it
in_reach : (f : Format) (q k : ℕ) → q < 2 ^ prec f → k ≤ low f → q * 2 ^ (low f - k) < 2 ^ (low f + suc (emax f))
in_reach f q k small fine = lt_of_lt_of_le (shl_lt (prec f) (low f - k) small) (pow_mono (room (prec f) (low f) (emax f) (reach f)))
  where
    room : (p l e : ℕ) → p ≤ suc e → p + (l - k) ≤ l + suc e
    room p l e h = omega arith

-- num / den in units of the smallest value
in_units : (l num den q k : ℕ) → k ≤ l → num * 2 ^ k ≡ q * den → num * 2 ^ l ≡ q * 2 ^ (l - k) * den
in_units l num den q k fine h =
    let split : l ≡ l - k + k = omega arith in
    let u = 2 ^ (l - k) in
    ap (λ (n : ℕ). num * n) (ap (λ (n : ℕ). 2 ^ n) split ∙ pow-add 2 (l - k) k)
    ∙ mul_left_comm num u (2 ^ k)
    ∙ ap (λ (n : ℕ). u * n) h
    ∙ sym (mul_assoc u q den)
    ∙ ap (λ (n : ℕ). n * den) (mul_comm u q)

-- the fraction ±num / den, rounded, has the exact value z / 2 ^ k, if the fraction is z / 2 ^ k
pub exact_round : (f : Format) (s : Bool) (num den : ℕ) {k : ℕ} (z : ℤ) → 0 < den → nat_abs z < 2 ^ prec f → k ≤ low f
    → signed s num *ℤ pos (2 ^ k) ≡ z *ℤ pos den → Exact (round f s num den) z k
exact_round f s num den {k} z positive small fine q =
    let magnitudes : num * 2 ^ k ≡ nat_abs z * den =
    ap (λ (n : ℕ). n * 2 ^ k) (sym (abs_signed s num)) ∙ sym (abs_mul (signed s num) (pos (2 ^ k))) ∙ ap nat_abs q ∙ abs_mul z (pos den) in
    exact_fraction (round f s num den) s num den k z positive q
    (round_exact f s num den (nat_abs z) (low f - k) positive small (in_reach f (nat_abs z) k small fine) (in_units (low f) num den (nat_abs z) k fine magnitudes))
