-- A flag is set where it and the flags share a bit.
-- Assumes nothing.
use mathlib.Core.Path.{◌≡◌, refl}
use mathlib.Core.Bool.{not}
use Prim.Native.Nat.{ℕ, zero, suc, ◌*◌, ◌^◌, ◌<◌}
use native.Mathlib.Nat.{zero-mul}
use native.Mathlib.Omega.{arith}
use borrow.Author.Tests.{ne_eqb}
use lib.Dec.{eqb}
use lib.Bits.{bit_and}
use Rattle.std.proofs.lemmas.Nat.{pow_pos}
use Rattle.std.proofs.lemmas.Nat.Bits.{and_pow}
use Rattle.component.specs.Record.{bit}

-- a bit alone, or none
bit_or_none : (b p : ℕ) → b < 2 → 0 < p → not (eqb (b * p) 0) ≡ eqb b 1
bit_or_none zero p h some = rw (zero-mul p) refl
bit_or_none (suc zero) p h some = simp (ne_eqb (1 * p) 0 (omega arith)) refl
bit_or_none (suc (suc k)) p h some = absurd (omega arith)

-- the flag at bit k, at each that is read
flag : (n k : ℕ) → not (eqb (bit_and n (2 ^ k)) 0) ≡ eqb (bit n (2 ^ k)) 1
flag n k = rw (and_pow n k) (bit_or_none _ _ (omega arith) (pow_pos k))

module _ (n : ℕ) where
  pub flag0 : not (eqb (bit_and n 0x0001) 0) ≡ eqb (bit n 0x0001) 1
  flag0 = flag n 0

  pub flag1 : not (eqb (bit_and n 0x0002) 0) ≡ eqb (bit n 0x0002) 1
  flag1 = flag n 1

  pub flag3 : not (eqb (bit_and n 0x0008) 0) ≡ eqb (bit n 0x0008) 1
  flag3 = flag n 3

  pub flag6 : not (eqb (bit_and n 0x0040) 0) ≡ eqb (bit n 0x0040) 1
  flag6 = flag n 6

  pub flag7 : not (eqb (bit_and n 0x0080) 0) ≡ eqb (bit n 0x0080) 1
  flag7 = flag n 7
