-- Document 01, 'Rules of the arithmetic': each operation rounds once, to nearest even, as IEEE 754 says, at binary64.
-- Short names for the library's own operations, and the numbers 0 and 1. Assumes nothing.
use Rattle.std.specs.Prelude.{◌≡◌, Float}
use Rattle.std.specs.Float.{binary64}
use Rattle.std.specs.Float.Ieee.{add, sub, mul, div, of_bits}

infixl 6 ◌⊕◌
infixl 6 ◌⊖◌
infixl 7 ◌⊗◌
infixl 7 ◌⊘◌
-- the rounded sum
abbrev pub ◌⊕◌ : Float → Float → Float
x ⊕ y = add binary64 x y

-- the rounded difference
abbrev pub ◌⊖◌ : Float → Float → Float
x ⊖ y = sub binary64 x y

-- the rounded product
abbrev pub ◌⊗◌ : Float → Float → Float
x ⊗ y = mul binary64 x y

-- the rounded quotient
abbrev pub ◌⊘◌ : Float → Float → Float
x ⊘ y = div binary64 x y

-- 0.0, by its bit pattern
abbrev pub float0 : Float
float0 = of_bits binary64 0

-- 1.0, by its bit pattern
abbrev pub float1 : Float
float1 = of_bits binary64 0x3ff0_0000_0000_0000

-- whatever a closure may answer is what the function gives: `post x r` says that it may answer r at x
abbrev pub Computes : (Float → Float → Type 0) → (Float → Float) → Type 0
Computes post f = (x r : Float) → post x r → r ≡ f x

abbrev pub Computes₂ : (Float → Float → Float → Type 0) → (Float → Float → Float) → Type 0
Computes₂ post f = (x y r : Float) → post x y r → r ≡ f x y
