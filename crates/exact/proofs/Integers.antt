-- Whole numbers turned into floats and floats cut to whole numbers: both are exact, and together they test whether a float is a whole number within a limit.
-- Over the format and the limit. Assumes nothing.
use mathlib.Core.Path.{◌≡◌, refl, sym, ap, ◌∙◌, subst}
use mathlib.Core.Bool.{Bool, true, false, cond}
use mathlib.Core.Logic.{◌↔◌}
use Prim.Native.Nat.{ℕ, suc, ◌-◌, ◌*◌, ◌/◌, ◌^◌, ◌≤◌, ◌<◌, min, zero-le}
use native.Mathlib.Nat.{zero-lt-suc, mul-div_cancel, lt_of_le_of_lt}
use native.Mathlib.Omega.{arith}
use lib.IntN.{ℤ, pos, negsuc, neg_ℤ, ◌*ℤ◌, nat_abs}
use lib.Ieee.{Float, Format, prec, up, down, of_int, to_signed}
use lib.Ieee.Fits.{down_pos}
use Rattle.whole.proofs.Ring.{mul_one, abs_mul, mul_cancel}
use Rattle.exact.specs.Value.{Exact, exactly, Whole, Equal, signed}
use Rattle.exact.proofs.Signed.{abs_signed, signed_scale}
use Rattle.exact.proofs.Rounding.{exact_round}
use Rattle.exact.proofs.Compare.{same_value, exact_of_equal}

-- a whole number below 2 ^ prec, turned into a float
pub exact_integer : (f : Format) (z : ℤ) → nat_abs z < 2 ^ prec f → Exact (of_int f z) z 0
unfolding of_int
exact_integer f (pos n) small = exact_round f false n 1 (pos n) (zero-lt-suc 0) small zero-le refl
exact_integer f (negsuc n) small = exact_round f true (suc n) 1 (negsuc n) (zero-lt-suc 0) small zero-le refl

-- a number below the ends of the range is not held back there
uncut : (s : Bool) (q c : ℕ) → q < c → cond s (neg_ℤ (pos (min q c))) (pos (min q (c - 1))) ≡ signed s q
uncut true q c h = let e : min q c ≡ q = omega arith in ap (λ (n : ℕ). neg_ℤ (pos n)) e
uncut false q c h = let e : min q (c - 1) ≡ q = omega arith in ap pos e

-- a float that is a whole number of magnitude below 2 ^ h, cut to a whole number of h bits and a sign
pub exact_truncation : (h : ℕ) {x : Float} {z : ℤ} → Exact x z 0 → nat_abs z < 2 ^ h → to_signed h x ≡ z
unfolding to_signed
exact_truncation h (exactly {s} {m} {e} {z = z} g) small =
    let n = m * up e in
    let D = down e in
    let value : signed s n ≡ z *ℤ pos D = sym (mul_one (signed s n)) ∙ g in
    let size : n ≡ nat_abs z * D = sym (abs_signed s n) ∙ ap nat_abs value ∙ abs_mul z (pos D) in
    let quotient : n / D ≡ nat_abs z = ap (λ (n : ℕ). n / D) size ∙ mul-div_cancel (nat_abs z) (down_pos e) in
    let sign : signed s (nat_abs z) ≡ z = mul_cancel (signed s (nat_abs z)) z (pos D) (down_pos e) (sym (signed_scale s (nat_abs z) D) ∙ ap (signed s) (sym size) ∙ value) in
    uncut s (n / D) (2 ^ h) (subst (λ (q : ℕ). q < 2 ^ h) (sym quotient) small) ∙ ap (signed s) quotient ∙ sign

-- x is a whole number of magnitude at most b exactly if x cut to a whole number is of that magnitude and, turned back, is numerically equal to x
pub whole_test : (f : Format) (h b : ℕ) (x : Float) → b < 2 ^ prec f → b < 2 ^ h → Whole b x ↔ ((nat_abs (to_signed h x) ≤ b) × Equal (of_int f (to_signed h x)) x)
whole_test f h b x small range = (λ w. passes w, λ p. holds p)
  where
    passes : Whole b x → (nat_abs (to_signed h x) ≤ b) × Equal (of_int f (to_signed h x)) x
    passes w =
        rw (exact_truncation h w.exact (lt_of_le_of_lt w.within range))
        (w.within, same_value (exact_integer f w.number (lt_of_le_of_lt w.within small)) w.exact)

    holds : (nat_abs (to_signed h x) ≤ b) × Equal (of_int f (to_signed h x)) x → Whole b x
    holds p = record {
      number = to_signed h x;
      exact = exact_of_equal x p.1 (exact_integer f (to_signed h x) (lt_of_le_of_lt p.0 small));
      within = p.0;
    }
