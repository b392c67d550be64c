-- Two answers that mean the same outcome are the same answer: so a promise on the meaning leaves nothing loose.
-- Assumes nothing.
use mathlib.Core.Path.{◌≡◌, refl, sym, ap, ◌∙◌}
use Prim.Native.Nat.{ℕ, zero, suc}
use mathlib.Core.Bool.{cond}
use lib.Dec.{eqb}
use Rattle.vector.specs.declared.refusal.Refusal.{Refusal}
use Rattle.vector.specs.declared.refusal.Refusal.TheVariants.{Column, Row, Singular, InputLength, OutputLength, Order, NotWhole}
use Rattle.std.specs.Prelude.{Result, Ok, Err}
use Rattle.vector.specs.Refusals.{Outcome, given, refused, Meant, bare, placed, means, outcome}

-- the cause that stands for a number without a place
abbrev unplaced : ℕ → Refusal
unplaced zero = Singular
unplaced (suc zero) = Singular
unplaced (suc (suc zero)) = Singular
unplaced (suc (suc (suc zero))) = InputLength
unplaced (suc (suc (suc (suc zero)))) = OutputLength
unplaced (suc (suc (suc (suc (suc zero))))) = Order
unplaced (suc (suc (suc (suc (suc (suc n)))))) = NotWhole

-- the cause that has a meaning
abbrev pub cause : Meant → Refusal
cause (bare n) = unplaced n
cause (placed n place) = cond (eqb n 11) (Column place) (Row place)

-- no two causes have one meaning: neither the number nor the place can be lost
pub cause_means : (r : Refusal) → cause (means r) ≡ r
cause_means (Column place) = refl
cause_means (Row place) = refl
cause_means Singular = refl
cause_means InputLength = refl
cause_means OutputLength = refl
cause_means Order = refl
cause_means NotWhole = refl

-- what can be read back from its meaning has one meaning
pub one_meaning : {A B : Type 0} (meaning : A → B) (back : B → A) → ((a : A) → back (meaning a) ≡ a) → (a b : A) → meaning a ≡ meaning b → a ≡ b
one_meaning meaning back there a b e = sym (there a) ∙ (ap back e ∙ there b)

-- the answer of an outcome
abbrev answer_of : {A : Type 0} → Outcome A → Result A Refusal
answer_of (given a) = Ok a
answer_of (refused why) = Err (cause why)

-- two answers that mean the same outcome are the same answer
pub outcome_one : {A : Type 0} (a b : Result A Refusal) → outcome a ≡ outcome b → a ≡ b
outcome_one = one_meaning outcome answer_of there where
  there : {A : Type 0} (a : Result A Refusal) → answer_of (outcome a) ≡ a
  there (Ok a) = refl
  there (Err r) = ap Err (cause_means r)
