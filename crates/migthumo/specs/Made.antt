-- What is known of the closures that the entries hand over, and of what an entry leaves. Assumes nothing.
use Rattle.std.specs.Prelude.{Result, ◌≡◌}
use Rattle.vector.specs.declared.refusal.Refusal.{Refusal}
use Rattle.vector.specs.Refusals.{Outcome, outcome, done, leaves}

-- whatever the closure gives means this outcome: of nothing, of one thing, of two
abbrev pub Made : {R : Type 0} → (Result R Refusal → Type 0) → Outcome R → Type 0
Made {R = R} post g = (r : Result R Refusal) → post r → outcome r ≡ g

abbrev pub Makes : {M R : Type 0} → (M → Result R Refusal → Type 0) → (M → Outcome R) → Type 0
Makes {M = M} post g = (x : M) → Made (post x) (g x)

abbrev pub Makes₂ : {M R : Type 0} → (M → M → Result R Refusal → Type 0) → (M → M → Outcome R) → Type 0
Makes₂ {M = M} post g = (x y : M) → Made (post x y) (g x y)

-- an entry that answers this, and leaves `exit` where `entry` was lent, has this outcome: done, or the refusal and nothing written
pub record Left {A : Type 0} (answered : Result Unit Refusal) (entry exit : A) (o : Outcome A) : Type 0 where
  pub answer : outcome answered ≡ done o
  pub left : exit ≡ leaves entry o
