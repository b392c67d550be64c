-- How a report is written: bytes in ASCII, whole numbers in decimal, one text after another.
-- Assumes nothing.
use Rattle.std.specs.Prelude.{ℕ, zero, suc, ◌+◌, ◌/◌, ◌%◌, ◌^◌, cond, List, [], ◌∷◌, ◌++◌, ℤ, pos, negsuc, nat_le}
use Prim.Native.Char.{code}
use Prim.Native.String.{String, [] as empty, ◌∷◌ as ◌before◌}

-- a text as it is stored, one number for each byte
abbrev pub Bytes : Type 0
Bytes = List ℕ

-- the bytes of a quoted text
abbrev pub text : String → Bytes
text empty = []
text (c before s) = code c ∷ text s

-- the texts f 0, f 1, .., f (n - 1), one after another
abbrev pub each : ℕ → (ℕ → Bytes) → Bytes
each zero f = []
each (suc k) f = each k f ++ f k

-- the last decimal digit of a number
abbrev pub digit : ℕ → ℕ
digit n = 48 + n % 10

-- the digits above the last: of each power of ten up to 10^j that the number reaches, the highest first
unfoldable pub higher : ℕ → ℕ → Bytes
higher zero n = []
higher (suc j) n = cond (nat_le (10 ^ suc j) n) (digit (n / 10 ^ suc j) ∷ []) [] ++ higher j n

-- a number below 10^20 in decimal
unfoldable pub decimal : ℕ → Bytes
decimal n = higher 19 n ++ (digit n ∷ [])

-- a whole number in decimal, with a minus sign before a negative one
unfoldable pub whole : ℤ → Bytes
whole (pos n) = decimal n
whole (negsuc n) = text "-" ++ decimal (suc n)
