-- What the functions that read a line promise each other.
-- Assumes nothing.
use Rattle.std.specs.Prelude.{◌≡◌, ℕ, Bool, true, false, cond, ℤ, Option, MatchOption}
use Rattle.report.specs.Text.{Bytes}
use Rattle.report.specs.Words.{is_blank, number_of, fits}

-- a byte that is no blank
abbrev pub is_other : ℕ → Bool
is_other b = cond (is_blank b) false true

-- the number that a word is where it fits, and none where it does not
abbrev pub Fitting : Bytes → Option ℤ → Type 0
Fitting w r = MatchOption r (fits w ≡ false) (λ z. (fits w ≡ true) × (z ≡ number_of w))
