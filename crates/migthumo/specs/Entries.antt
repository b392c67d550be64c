-- Document 01, 'The numbers a refusal carries': what an entry of the boundary tests first, in the order 5, 3, 4, and what it answers and leaves.
-- Document 02, No. 1, 'Say column or row', has a number and a place; that they cross as one number is the boundary's own rule.
-- Assumes nothing.
use Rattle.std.specs.Prelude.{ℕ, Option, Some, None, ◌+◌, ◌*◌, ◌/◌, ◌%◌, ◌^◌, ◌<◌, ◌≡◌, cond, ◌&&◌, List, [], ◌∷◌, leb, ltb, eqb}
use Rattle.vector.specs.declared.refusal.Place.{Place}
use Rattle.vector.specs.declared.refusal.Place.TheVariants.{First, Second}
use Rattle.vector.specs.declared.refusal.Refusal.{Refusal}
use Rattle.vector.specs.declared.refusal.Refusal.TheVariants.{InputLength, OutputLength, Order}
use Rattle.vector.specs.Refusals.{Outcome, given, refused, Meant, bare, placed, means, number_of, place_of, refused_for, after, leaves}
use Rattle.bulk.specs.Refusals.{order_from, number_is}

-- what is answered for a refusal: its number, and 256 more where the second place is at fault
abbrev pub code_of : Meant → ℕ
code_of (bare n) = n
code_of (placed n First) = n
code_of (placed n Second) = n + 256

-- what is answered: that of the refusal, or 0, which is no refusal's
abbrev pub code : {A : Type 0} → Outcome A → ℕ
code (given _) = 0
code (refused why) = code_of why

-- 1 at the second place, 0 at the first and where there is none
abbrev pub second : Option Place → ℕ
second None = 0
second (Some First) = 0
second (Some Second) = 1

-- what an answer tells of its cause: it is neither 0 nor 1, which is retired; its last eight bits are the number, and what
-- stands above them says whether the place is the second; no two causes share one. Shown in proofs/Told.antt
pub record CodeTells : Type 0 where
  pub above_one : (cause : Refusal) → 1 < code_of (means cause)
  pub low_bits : (cause : Refusal) → code_of (means cause) % 256 ≡ number_of (means cause)
  pub high_bits : (cause : Refusal) → code_of (means cause) / 256 ≡ second (place_of (means cause))
  pub one_cause : (a b : Refusal) → code_of (means a) ≡ code_of (means b) → a ≡ b

-- an entry that answers r, and leaves `exit` where `entry` was lent, has this outcome
pub record Answers {A : Type 0} (r : ℕ) (entry exit : A) (outcome : Outcome A) : Type 0 where
  pub answer : r ≡ code outcome
  pub left : exit ≡ leaves entry outcome

-- refusal 3 unless each input has the length wanted
abbrev pub lengths_are : List ℕ → ℕ → Outcome Unit
lengths_are [] wanted = given tt
lengths_are (n ∷ inputs) wanted = after (number_is InputLength n wanted) (lengths_are inputs wanted)

-- the order, from the least one that the entry takes; each input, a matrix of order² numbers; the output,
-- one number at width 0, a vector of `order` numbers at 1, a matrix of order² at 2
unfoldable pub entry_fits : (least order : ℕ) (inputs : List ℕ) (width output : ℕ) → Outcome Unit
entry_fits least order inputs width output =
    after (order_from least order)
    (after (lengths_are inputs (order * order))
    (number_is OutputLength output (order ^ width)))

-- refusal 5 unless the orders are 2 in 3, 2 in 4 or 3 in 4
unfoldable pub orders_embed : ℕ → ℕ → Outcome Unit
orders_embed order to = cond (leb 2 order && (ltb order to && leb to 4)) (given tt) (refused_for Order)

-- the tests of an embedding: the orders, the input of order² numbers, the output of to²
unfoldable pub fits_to : ℕ → ℕ → ℕ → ℕ → Outcome Unit
fits_to order to input output =
    after (orders_embed order to)
    (after (number_is InputLength input (order * order))
    (number_is OutputLength output (to * to)))

-- what stands for the order, which is 2, 3 or 4
abbrev pub by_order : {A : Type 0} → ℕ → A → A → A → A
by_order order two three four = cond (eqb order 2) two (cond (eqb order 3) three four)
