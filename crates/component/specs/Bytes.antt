-- Document 02, No. 2, 'Read component records': numbers as the bytes of a font have them.
-- Assumes nothing.
use Rattle.std.specs.Prelude.{ℕ, ◌+◌, ◌*◌, ◌-◌, ◌^◌, cond, List, ltb, get_or, ℤ, pos, ◌-ℤ◌, Float}
use Rattle.std.specs.Float.{binary64}
use Rattle.std.specs.Float.Ieee.{of_int, of_bits}
use Rattle.vector.specs.Arithmetic.{◌⊘◌}

-- the byte at a place; past the end 0 stands, which no outcome shows
abbrev pub byte : List ℕ → ℕ → ℕ
byte bytes i = get_or bytes i 0

-- two bytes as a number, the larger first
abbrev pub word : List ℕ → ℕ → ℕ
word bytes i = byte bytes i * 256 + byte bytes (i + 1)

-- a number of so many bits, signed: from the half of their range on it stands for itself less the range
unfoldable pub twos_complement : (bits n : ℕ) → ℤ
twos_complement bits n = cond (ltb n (2 ^ (bits - 1))) (pos n) (pos n -ℤ pos (2 ^ bits))

-- 16384.0, by its bit pattern
abbrev pub float16384 : Float
float16384 = of_bits binary64 0x40d0_0000_0000_0000

-- F2Dot14: a signed number of 16 bits, over 16384
abbrev pub f2dot14 : ℤ → Float
f2dot14 n = of_int binary64 n ⊘ float16384
