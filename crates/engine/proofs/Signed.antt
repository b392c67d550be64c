-- What 64 bits keep of a signed number.
-- Assumes nothing.
use Rattle.std.proofs.Common.{◌≡◌, ℕ, ◌^◌, ◌<◌, ◌≤◌, ℤ, pos, negsuc, nat_abs, le_trans, le_refl, lt_of_le_of_lt, w64, SFits, to_z, of_z}
use native.Mathlib.Nat.{le-suc}
use lib.Signed.{mag}
use mir.ValLaws.{to_z-of_z}

-- a number within the range is read back from its bits
pub back : (z : ℤ) → mag z < 2 ^ 63 → to_z w64 (of_z w64 z) ≡ z
back z h = to_z-of_z w64 z (record { sfits = h })

-- a magnitude bounds what the range asks
mag_le : (z : ℤ) → mag z ≤ nat_abs z
mag_le (pos n) = le_refl n
mag_le (negsuc n) = le-suc n

-- a number of magnitude below 2 ^ 63 fits
pub small_fits : (z : ℤ) {b : ℕ} → nat_abs z ≤ b → b < 2 ^ 63 → SFits w64 z
small_fits z h l = record { sfits = lt_of_le_of_lt (le_trans (mag_le z) h) l }

-- and is read back
pub small_back : (z : ℤ) {b : ℕ} → nat_abs z ≤ b → b < 2 ^ 63 → to_z w64 (of_z w64 z) ≡ z
small_back z h l = to_z-of_z w64 z (small_fits z h l)
