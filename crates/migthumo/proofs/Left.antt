-- What an entry answers and leaves, step by step: a length that is wrong, one that is right, what is then made or refused.
-- Assumes nothing.
use mathlib.Core.Path.{◌≡◌, refl, sym, ap, ◌∙◌}
use Prim.Native.Nat.{ℕ}
use Rattle.std.specs.Prelude.{Result, Ok, Err}
use Rattle.vector.specs.declared.refusal.Refusal.{Refusal}
use Rattle.vector.specs.Refusals.{Outcome, refused_for, outcome, after, over}
use Rattle.bulk.specs.Refusals.{number_is}
use Rattle.bulk.proofs.Checks.{length_right, length_wrong}
use Rattle.migthumo.specs.Made.{Left}

module _ {A : Type 0} (cause : Refusal) (found wanted : ℕ) where
  -- a length that is wrong refuses, whatever would follow
  pub wrong : (o : Outcome A) → (found ≡ wanted → ⊥) → refused_for cause ≡ after (number_is cause found wanted) o
  wrong o ne = rw (length_wrong cause found wanted ne)

  -- a length that is right lets it follow
  pub right : (o p : Outcome A) → found ≡ wanted → o ≡ p → o ≡ after (number_is cause found wanted) p
  right o p e same = rw (length_right cause found wanted e) same

  pub left_wrong : (entry : A) (o : Outcome A) → (found ≡ wanted → ⊥) → Left (Err cause) entry entry (after (number_is cause found wanted) o)
  left_wrong entry o ne = rw (length_wrong cause found wanted ne) (record { answer = refl; left = refl })

  pub left_right : {answer : Result Unit Refusal} {entry exit : A} {o : Outcome A} → found ≡ wanted → Left answer entry exit o → Left answer entry exit (after (number_is cause found wanted) o)
  left_right e told = rw (length_right cause found wanted e) told

module _ {A R : Type 0} (f : R → A) (g : Outcome R) {made : Result R Refusal} (means : outcome made ≡ g) where
  -- what was refused is answered, and nothing is written
  pub left_refused : {cause : Refusal} {answer : Result Unit Refusal} (entry : A) → made ≡ Err cause → answer ≡ Err cause → Left answer entry entry (over f g)
  left_refused entry is answered = rw (sym means ∙ ap outcome is, answered) (record { answer = refl; left = refl })

  -- what was made is written
  pub left_made : {r : R} {entry exit : A} → made ≡ Ok r → exit ≡ f r → Left (Ok tt) entry exit (over f g)
  left_made is put = rw (sym means ∙ ap outcome is) (record { answer = refl; left = put })
