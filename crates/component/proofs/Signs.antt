-- A number of so many bits, read as signed: what a cast leaves is the definition's number.
-- Assumes nothing.
use mathlib.Core.Path.{◌≡◌, refl}
use mathlib.Core.Bool.{Bool, true, false, cond}
use Prim.Native.Nat.{ℕ, zero, suc, ◌-◌, ◌<◌}
use native.Mathlib.Omega.{arith}
use borrow.Author.Tests.{lt-ltb}
use lib.IntN.{pos, negsuc, ◌-ℤ◌}
use mir.Syntax.{w8, w16}
use mir.Val.{to_z}
use Rattle.component.specs.Bytes.{twos_complement}

-- a number less a larger one
gap : (n range : ℕ) → n < range → negsuc (range - suc n) ≡ pos n -ℤ pos range
gap n zero h = absurd (omega arith)
gap n (suc k) h = simp (lt-ltb n (suc k) h)

-- alike below the half of the range, and from there on
halves : (b : Bool) (n range : ℕ) → n < range → cond b (pos n) (negsuc (range - suc n)) ≡ cond b (pos n) (pos n -ℤ pos range)
halves true n range h = refl
halves false n range h = gap n range h

pub signed8 : (n : ℕ) → n < 256 → to_z w8 n ≡ twos_complement 8 n
unfolding twos_complement
signed8 n within = halves _ n 256 within

pub signed16 : (n : ℕ) → n < 65536 → to_z w16 n ≡ twos_complement 16 n
unfolding twos_complement
signed16 n within = halves _ n 65536 within
