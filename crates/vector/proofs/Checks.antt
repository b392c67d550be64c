-- What the check of a number against its limit says: fine exactly below the limit, whatever the cause it would name.
-- Assumes nothing.
use mathlib.Core.Path.{◌≡◌, refl}
use mathlib.Core.Bool.{Bool, true, false, cond}
use Prim.Native.Nat.{ℕ, ◌≤◌, ◌<◌}
use lib.Dec.{ltb}
use borrow.Author.Tests.{lt-ltb, le-ltb, ltb-true}
use Rattle.vector.specs.declared.refusal.Refusal.{Refusal}
use Rattle.vector.specs.Refusals.{Outcome, given, refused, refused_for, Meant, means, after, below_limit}

-- a number below the limit passes
pub within : (cause : Refusal) (limit n : ℕ) → n < limit → below_limit cause limit n ≡ given tt
unfolding below_limit
within cause limit n h = simp (lt-ltb n limit h)

-- a number not below the limit is refused, for the cause
pub outside : (cause : Refusal) (limit n : ℕ) → limit ≤ n → below_limit cause limit n ≡ refused_for cause
unfolding below_limit
outside cause limit n h = simp (le-ltb n limit h)

-- a test whose refusal did not come was true
pub passed : (b : Bool) (why : Meant) → ◌≡◌ {A = Outcome Unit} (cond b (given tt) (refused why)) (given tt) → b ≡ true
passed true why e = cc
passed false why e = let absurd : ◌≡◌ {A = ℕ} 0 1 = cc in cc

-- what passes is below the limit
pub passes : (cause : Refusal) (limit n : ℕ) → below_limit cause limit n ≡ given tt → n < limit
unfolding below_limit
passes cause limit n e = ltb-true n limit (passed (ltb n limit) (means cause) e)

-- a test made again, whatever it finds then: the first decides
by_test : (b : Bool) (first second : Meant) → after {A = Unit} (cond b (given tt) (refused first)) (cond b (given tt) (refused second)) ≡ cond b (given tt) (refused first)
by_test true first second = refl
by_test false first second = refl

-- a number that is tested again, for another cause: the first test decides
pub twice : (first second : Refusal) (limit n : ℕ) → after (below_limit first limit n) (below_limit second limit n) ≡ below_limit first limit n
unfolding below_limit
twice first second limit n = by_test (ltb n limit) (means first) (means second)
