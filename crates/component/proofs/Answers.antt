-- Two answers that mean the same outcome are the same answer: so a promise on the meaning leaves nothing loose.
-- Assumes nothing.
use mathlib.Core.Path.{◌≡◌, refl, ap}
use mathlib.Core.Bool.{cond}
use lib.Dec.{eqb}
use Rattle.std.specs.Prelude.{Result, Ok, Err}
use Rattle.vector.specs.Refusals.{Outcome, given, refused, Meant, bare, placed}
use Rattle.vector.proofs.Answers.{one_meaning}
use Rattle.component.specs.declared.fault.Fault.{Fault}
use Rattle.component.specs.declared.fault.Fault.TheVariants.{RecordEnds, ScaleFlags, PointNumbers}
use Rattle.component.specs.Fault.{means, outcome}

-- the cause that has a meaning; none has a place
abbrev pub fault : Meant → Fault
fault (bare n) = cond (eqb n 20) RecordEnds (cond (eqb n 21) ScaleFlags PointNumbers)
fault (placed n place) = PointNumbers

-- no two causes have one meaning
pub fault_means : (f : Fault) → fault (means f) ≡ f
fault_means RecordEnds = refl
fault_means ScaleFlags = refl
fault_means PointNumbers = refl

-- the answer of an outcome
abbrev answer_of : {A : Type 0} → Outcome A → Result A Fault
answer_of (given a) = Ok a
answer_of (refused why) = Err (fault why)

-- an answer is fixed by what it means
pub outcome_one : {A : Type 0} (a b : Result A Fault) → outcome a ≡ outcome b → a ≡ b
outcome_one = one_meaning outcome answer_of there where
  there : {A : Type 0} (a : Result A Fault) → answer_of (outcome a) ≡ a
  there (Ok a) = refl
  there (Err f) = ap Err (fault_means f)
