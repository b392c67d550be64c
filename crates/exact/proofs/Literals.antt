-- The exact values of the literals 0.0, -0.0 and 1.0. Over the format.
-- Assumes nothing.
use mathlib.Core.Path.{refl}
use Prim.Native.Nat.{◌*◌}
use lib.IntN.{pos}
use lib.Ieee.{Format, binary32, binary64, emax, hid, top, of_bits}
use Rattle.exact.specs.Value.{Exact, exactly}

-- 0.0
pub exact_zero : (f : Format) → Exact (of_bits f 0) (pos 0) 0
unfolding of_bits
exact_zero binary32 = exactly refl
exact_zero binary64 = exactly refl

-- -0.0: the bit of the sign alone
pub exact_minus_zero : (f : Format) → Exact (of_bits f (top f)) (pos 0) 0
unfolding of_bits
exact_minus_zero binary32 = exactly refl
exact_minus_zero binary64 = exactly refl

-- 1.0: the exponent's field is emax, and the digits are 0
pub exact_one : (f : Format) → Exact (of_bits f (emax f * hid f)) (pos 1) 0
unfolding of_bits
exact_one binary32 = exactly refl
exact_one binary64 = exactly refl
