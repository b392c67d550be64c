-- Document 01, 'The numbers a refusal carries', and document 02, No. 1, 'Say column or row': an outcome is the values given, or what the refusal means.
-- What an answer means as an outcome, here and in the crates above. Assumes nothing.
use Rattle.std.specs.Prelude.{ℕ, Option, Some, None, Result, Ok, Err, cond, ltb}
use Rattle.vector.specs.declared.refusal.Place.{Place}
use Rattle.vector.specs.declared.refusal.Refusal.{Refusal}
use Rattle.vector.specs.declared.refusal.Refusal.TheVariants.{Column, Row, Singular, InputLength, OutputLength, Order, NotWhole}

-- what a refusal means: its number and no more, or its number with the place at fault, the first or the second
pub data Meant : Type 0 where
  bare : ℕ → Meant
  placed : ℕ → Place → Meant

-- the values given, or what the refusal means and no values
pub data Outcome (A : Type 0) : Type 0 where
  given : A → Outcome A
  refused : Meant → Outcome A

-- what each cause means: 11 a column out of range, 12 a row out of range, each with first or second; 1 is retired
abbrev pub means : Refusal → Meant
means (Column place) = placed 11 place
means (Row place) = placed 12 place
means Singular = bare 2
means InputLength = bare 3
means OutputLength = bare 4
means Order = bare 5
means NotWhole = bare 6

-- the number of a refusal
abbrev pub number_of : Meant → ℕ
number_of (bare n) = n
number_of (placed n place) = n

-- the place of a refusal, or none
abbrev pub place_of : Meant → Option Place
place_of (bare n) = None
place_of (placed n place) = Some place

-- refused for this cause
abbrev pub refused_for : {A : Type 0} → Refusal → Outcome A
refused_for cause = refused (means cause)

-- what follows a check: its refusal, or the outcome where it found nothing
abbrev pub after : {A : Type 0} → Outcome Unit → Outcome A → Outcome A
after (given _) outcome = outcome
after (refused why) outcome = refused why

-- what was given, made over by f; a refusal stays as it is
abbrev pub over : {A B : Type 0} → (A → B) → Outcome A → Outcome B
over f (given a) = given (f a)
over f (refused why) = refused why

-- the answer of an entry that writes to what is lent: done, or the refusal
abbrev pub done : {A : Type 0} → Outcome A → Outcome Unit
done = over (λ _. tt)

-- what is lent at the end: the values given, or where refused what stood there before
abbrev pub leaves : {A : Type 0} → A → Outcome A → A
leaves before (given a) = a
leaves before (refused why) = before

-- refused for this cause unless the number is below the limit, which is the order or the length
unfoldable pub below_limit : (cause : Refusal) (limit n : ℕ) → Outcome Unit
below_limit cause limit n = cond (ltb n limit) (given tt) (refused_for cause)

-- what an answer means, whatever it gives: the value of an Ok, or what the cause of an Err means
abbrev pub outcome : {A : Type 0} → Result A Refusal → Outcome A
outcome (Ok a) = given a
outcome (Err cause) = refused_for cause
