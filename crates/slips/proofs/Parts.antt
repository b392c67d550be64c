-- How a slip is caught: one test that passes on the right answer and not on the wrong one. And what follows for a program.
-- Assumes nothing.
use mathlib.Core.Path.{◌≡◌, sym, ◌∙◌, subst}
use mathlib.Core.Bool.{Bool, true, false, ◌&&◌}
use lib.Dec.{T, eqb}
use Rattle.vector.specs.declared.refusal.Place.{Place}
use Rattle.vector.specs.declared.refusal.Place.TheVariants.{First, Second}
use Rattle.vector.specs.Refusals.{Outcome, given, refused, Meant, bare, placed}
use Rattle.slips.specs.Parts.{NoConstant, CannotPass}

-- a test that tells two answers apart
pub told_apart : {A : Type 0} (test : A → Bool) {right wrong : A} → T (test right) → ¬ T (test wrong) → ¬ (right ≡ wrong)
told_apart test passes fails same = fails (subst (λ a. T (test a)) same passes)

-- tests of an outcome: values are given that pass a test, or it is this refusal, its place included
abbrev pub gives : {A : Type 0} → (A → Bool) → Outcome A → Bool
gives test (given a) = test a
gives test (refused why) = false

abbrev same_place : Place → Place → Bool
same_place First First = true
same_place First Second = false
same_place Second First = false
same_place Second Second = true

abbrev same_meant : Meant → Meant → Bool
same_meant (bare n) (bare k) = eqb n k
same_meant (bare n) (placed k q) = false
same_meant (placed n p) (bare k) = false
same_meant (placed n p) (placed k q) = eqb n k && same_place p q

abbrev pub refuses : {A : Type 0} → Meant → Outcome A → Bool
refuses why (given a) = false
refuses why (refused found) = same_meant why found

-- what answers differently at two inputs is no constant
pub no_constant : {A B : Type 0} (right : A → B) (x y : A) → ¬ (right x ≡ right y) → NoConstant right
no_constant right x y differ constant always = differ (always x ∙ sym (always y))

-- a program with the wrong answers doesn't give the right ones
pub cannot_pass : CannotPass
cannot_pass A B right wrong program input parts slipped passes = parts (sym (passes input) ∙ slipped input)
