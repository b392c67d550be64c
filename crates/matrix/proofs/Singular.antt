-- The test on the determinant: refused exactly where it compares equal to zero.
-- Assumes nothing.
use mathlib.Core.Path.{◌≡◌, ap}
use mathlib.Core.Bool.{true, false}
use lib.Ieee.{Float, eq}
use Rattle.vector.specs.Arithmetic.{float0}
use Rattle.vector.specs.Refusals.{Outcome, given, refused_for, after}
use Rattle.vector.specs.declared.refusal.Refusal.TheVariants.{Singular}
use Rattle.matrix.specs.Inverse.{nonzero}

-- a determinant that compares equal to zero is refused, with 2
pub singular : (d : Float) → eq d float0 ≡ true → nonzero d ≡ refused_for Singular
unfolding nonzero
singular d h = rw h

-- any other passes, a NaN among them
pub regular : (d : Float) → eq d float0 ≡ false → nonzero d ≡ given tt
unfolding nonzero
regular d h = rw h

module _ {A : Type 0} (d e : Float) (same : d ≡ e) where
  -- the refusal is the whole outcome, where d is the determinant e as it was computed
  pub refused_singular : (outcome : Outcome A) → eq d float0 ≡ true → refused_for Singular ≡ after (nonzero e) outcome
  refused_singular outcome h = rw (← same, singular d h)

  -- the values are, where it passes
  pub inverted : {v w : A} → eq d float0 ≡ false → v ≡ w → given v ≡ after (nonzero e) (given w)
  inverted h values = rw (← same, regular d h) (ap given values)
