-- Exact values with a limit on the numerator, and what the operations make of both: the limits alone decide that a step is exact. Over the format.
-- Assumes nothing.
use mathlib.Core.Path.{◌≡◌, sym, subst}
use Prim.Native.Nat.{ℕ, ◌+◌, ◌*◌, ◌^◌, ◌≤◌, ◌<◌}
use native.Mathlib.Nat.{le_refl, le_trans, le_of_eq, lt_of_le_of_lt, add-le-add, zero-add}
use lib.IntN.{ℤ, pos, neg_ℤ, ◌+ℤ◌, ◌-ℤ◌, ◌*ℤ◌, nat_abs}
use lib.Ieee.{Float, Format, prec, low, neg, add, sub, mul, div, of_int}
use Rattle.whole.proofs.Ring.{abs_neg, abs_add, abs_mul_le}
use Rattle.exact.specs.Value.{Exact, Whole}
use Rattle.exact.proofs.Signed.{sign_of, abs_sign, abs_sign_mul}
use Rattle.exact.proofs.Bounds.{power_low}
use Rattle.exact.proofs.Operations.{exact_negation, exact_sum, exact_product}
use Rattle.exact.proofs.Quotients.{exact_quotient_by_power, exact_reciprocal}
use Rattle.exact.proofs.Integers.{exact_integer}

-- x has the exact value z / 2 ^ k, and z is of magnitude at most b
pub record Known (x : Float) (z : ℤ) (k b : ℕ) : Type 0 where
  pub exact : Exact x z k
  pub within : nat_abs z ≤ b

-- a whole number within a limit
pub known_whole : {b : ℕ} {x : Float} (h : Whole b x) → Known x h.number 0 b
known_whole h = record { exact = h.exact; within = h.within }

-- a larger limit
pub known_within : {x : Float} {z : ℤ} {k b c : ℕ} → b ≤ c → Known x z k b → Known x z k c
known_within l h = record { exact = h.exact; within = le_trans h.within l }

-- a whole number turned into a float
pub known_integer : (f : Format) (z : ℤ) → nat_abs z < 2 ^ prec f → Known (of_int f z) z 0 (nat_abs z)
known_integer f z small = record { exact = exact_integer f z small; within = le_refl (nat_abs z) }

-- a negation keeps the limit
pub known_negation : {x : Float} {a : ℤ} {k b : ℕ} → Known x a k b → Known (neg x) (neg_ℤ a) k b
known_negation {a = a} g = record { exact = exact_negation g.exact; within = le_trans (le_of_eq (abs_neg a)) g.within }

-- the limits of a sum's parts are added
pub known_sum : (f : Format) {x y : Float} {a c : ℤ} {k b d : ℕ} → Known x a k b → Known y c k d → b + d < 2 ^ prec f → k ≤ low f → Known (add f x y) (a +ℤ c) k (b + d)
known_sum f {a = a} {c = c} {b = b} {d = d} g h small fine =
    let l : nat_abs (a +ℤ c) ≤ b + d = le_trans (abs_add a c) (add-le-add g.within h.within) in
    record { exact = exact_sum f g.exact h.exact (lt_of_le_of_lt l small) fine; within = l }

-- the limits of a difference's parts are added
pub known_difference : (f : Format) {x y : Float} {a c : ℤ} {k b d : ℕ} → Known x a k b → Known y c k d → b + d < 2 ^ prec f → k ≤ low f → Known (sub f x y) (a -ℤ c) k (b + d)
unfolding sub
known_difference f g h = known_sum f g (known_negation h)

-- the limits of a product's factors are multiplied
pub known_product : (f : Format) {x y : Float} {a c : ℤ} {j k b d : ℕ} → Known x a j b → Known y c k d → b * d < 2 ^ prec f → j + k ≤ low f → Known (mul f x y) (a *ℤ c) (j + k) (b * d)
known_product f {a = a} {c = c} {b = b} {d = d} g h small fine =
    let l : nat_abs (a *ℤ c) ≤ b * d = abs_mul_le a c g.within h.within in
    record { exact = exact_product f g.exact h.exact (lt_of_le_of_lt l small) fine; within = l }

-- a divisor of plus or minus 2 ^ k, with a limit below 2 ^ prec: its reciprocal is one of the format
power_fine : (f : Format) {d : Float} {c : ℤ} {j e : ℕ} (k : ℕ) → Known d c j e → nat_abs c ≡ 2 ^ k → e < 2 ^ prec f → k ≤ low f
power_fine f k h power small = power_low f k (lt_of_le_of_lt (le_trans (le_of_eq (sym power)) h.within) small)

-- a whole number divided by plus or minus 2 ^ k keeps its limit
pub known_quotient : (f : Format) {x d : Float} {a c : ℤ} {b e : ℕ} (k : ℕ) → Known x a 0 b → Known d c 0 e → nat_abs c ≡ 2 ^ k
    → b < 2 ^ prec f → e < 2 ^ prec f → Known (div f x d) (sign_of c *ℤ a) k b
known_quotient f {x} {d} {a} {c} {b} k g h power small small-divisor =
    let fine : 0 + k ≤ low f = le_trans (le_of_eq (zero-add k)) (power_fine f k h power small-divisor) in
    record {
      exact = subst (Exact (div f x d) (sign_of c *ℤ a)) (zero-add k) (exact_quotient_by_power f k g.exact h.exact power (lt_of_le_of_lt g.within small) fine);
      within = le_trans (le_of_eq (abs_sign_mul c a)) g.within;
    }

-- the reciprocal of plus or minus 2 ^ k is 1 or -1 over 2 ^ k
pub known_reciprocal : (f : Format) {one d : Float} {c : ℤ} {e : ℕ} (k : ℕ) → Exact one (pos 1) 0 → Known d c 0 e → nat_abs c ≡ 2 ^ k
    → e < 2 ^ prec f → Known (div f one d) (sign_of c) k 1
known_reciprocal f {c = c} k o h power small =
    record { exact = exact_reciprocal f k o h.exact power (power_fine f k h power small); within = le_of_eq (abs_sign c) }
