-- What an answer tells of its cause: the number, the place, and so the cause itself. Assumes nothing.
use mathlib.Core.Path.{◌≡◌, refl}
use mathlib.Core.Bool.{cond}
use Prim.Native.Nat.{ℕ, ◌/◌, ◌%◌, ◌<◌}
use lib.Dec.{eqb, lit<}
use Rattle.vector.specs.declared.refusal.Place.TheVariants.{First, Second}
use Rattle.vector.specs.declared.refusal.Refusal.{Refusal}
use Rattle.vector.specs.declared.refusal.Refusal.TheVariants.{Column, Row, Singular, InputLength, OutputLength, Order, NotWhole}
use Rattle.vector.specs.Refusals.{bare, means, number_of, place_of}
use Rattle.vector.proofs.Answers.{cause, one_meaning}
use Rattle.migthumo.specs.Entries.{code_of, second, CodeTells}

-- what is answered for a cause
abbrev answer : Refusal → ℕ
answer r = code_of (means r)

-- the cause that has an answer
abbrev caused : ℕ → Refusal
caused n = cond (eqb n 11) (Column First) (cond (eqb n 12) (Row First) (cond (eqb n 267) (Column Second) (cond (eqb n 268) (Row Second) (cause (bare n)))))

back : (r : Refusal) → caused (answer r) ≡ r
back (Column First) = refl
back (Column Second) = refl
back (Row First) = refl
back (Row Second) = refl
back Singular = refl
back InputLength = refl
back OutputLength = refl
back Order = refl
back NotWhole = refl

-- no cause answers 0 or 1
pub above_one : (r : Refusal) → 1 < answer r
above_one (Column First) = lit< tt
above_one (Column Second) = lit< tt
above_one (Row First) = lit< tt
above_one (Row Second) = lit< tt
above_one Singular = lit< tt
above_one InputLength = lit< tt
above_one OutputLength = lit< tt
above_one Order = lit< tt
above_one NotWhole = lit< tt

-- the last eight bits are the number
low : (r : Refusal) → answer r % 256 ≡ number_of (means r)
low (Column First) = refl
low (Column Second) = refl
low (Row First) = refl
low (Row Second) = refl
low Singular = refl
low InputLength = refl
low OutputLength = refl
low Order = refl
low NotWhole = refl

-- what stands above them is 1 where the place is the second, and 0 elsewhere
high : (r : Refusal) → answer r / 256 ≡ second (place_of (means r))
high (Column First) = refl
high (Column Second) = refl
high (Row First) = refl
high (Row Second) = refl
high Singular = refl
high InputLength = refl
high OutputLength = refl
high Order = refl
high NotWhole = refl

-- ---- the claim

pub code_tells : CodeTells
code_tells = record { above_one = above_one; low_bits = low; high_bits = high; one_cause = one_meaning answer caused back }
