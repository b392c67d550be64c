-- What the precision of a format bounds: 1 is below 2 ^ prec, and a power of two below 2 ^ prec has a reciprocal in the format.
-- Assumes nothing.
use Prim.Native.Nat.{ℕ, ◌^◌, ◌≤◌, ◌<◌}
use native.Mathlib.Nat.{le_trans, le_of_lt, lt_of_not-le, not-le_of_lt}
use lib.Dec.{lit<, lit≤}
use lib.Pow.{pow_mono}
use lib.Ieee.{Format, binary32, binary64, prec, low}

-- 1 has few enough digits
pub one_small : (f : Format) → 1 < 2 ^ prec f
one_small binary32 = lit< tt
one_small binary64 = lit< tt

-- the smallest value lies further down than the precision
pub precision_low : (f : Format) → prec f ≤ low f
precision_low binary32 = lit≤ tt
precision_low binary64 = lit≤ tt

-- of powers of two the smaller has the smaller exponent
pub exponent_below : {i j : ℕ} → 2 ^ i < 2 ^ j → i < j
exponent_below {i} {j} h = lt_of_not-le (λ (l : j ≤ i). not-le_of_lt h (pow_mono l))

-- the reciprocal of a power of two below 2 ^ prec is no smaller than the smallest value
pub power_low : (f : Format) (k : ℕ) → 2 ^ k < 2 ^ prec f → k ≤ low f
power_low f k h = le_trans (le_of_lt (exponent_below h)) (precision_low f)
