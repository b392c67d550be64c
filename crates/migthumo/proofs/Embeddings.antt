-- An embedding: the test of its two orders, on both sides of each edge, and what an arm that the test leaves answers and leaves is the entry's outcome.
-- Assumes nothing.
use mathlib.Core.Path.{◌≡◌, refl, sym, ap, ◌∙◌}
use mathlib.Core.Bool.{◌&&◌}
use mathlib.Core.List.{List}
use Prim.Native.Nat.{ℕ, ◌<◌, ◌≤◌}
use native.Mathlib.Omega.{arith}
use lib.Ieee.{Float}
use lib.ListN.{length}
use lib.Dec.{leb, ltb}
use borrow.Author.Tests.{ltb-true, leb-true, lt-leb, le-leb, lt-ltb, le-ltb}
use Rattle.std.specs.Prelude.{Result, Err}
use Rattle.vector.specs.declared.refusal.Refusal.{Refusal}
use Rattle.vector.specs.declared.refusal.Refusal.TheVariants.{InputLength, OutputLength, Order}
use Rattle.vector.proofs.Checks.{passed}
use Rattle.bulk.proofs.Checks.{both_true}
use Rattle.vector.specs.Refusals.{Outcome, given, refused, refused_for, outcome, after}
use Rattle.matrix.specs.Records.{embed23, embed24, embed34}
use Rattle.bulk.specs.Moves.{flat2, flat3}
use Rattle.bulk.specs.Refusals.{number_is}
use Rattle.migthumo.specs.Made.{Left}
use Rattle.migthumo.specs.Entries.{orders_embed, fits_to}
use Rattle.migthumo.specs.Flat.{numbers3, numbers4}
use Rattle.migthumo.specs.Boundary.{embed_of, embed}

-- ---- the test of the orders

pub embed_low : (order to : ℕ) → order < 2 → orders_embed order to ≡ refused_for Order
unfolding orders_embed
embed_low order to low = simp (lt-leb 2 order low)

pub embed_same : (order to : ℕ) → 2 ≤ order → to ≤ order → orders_embed order to ≡ refused_for Order
unfolding orders_embed
embed_same order to low not-above = simp (le-leb 2 order low, le-ltb order to not-above)

pub embed_high : (order to : ℕ) → 2 ≤ order → order < to → 4 < to → orders_embed order to ≡ refused_for Order
unfolding orders_embed
embed_high order to low above high = simp (le-leb 2 order low, lt-ltb order to above, lt-leb to 4 high)

pub embed_taken : (order to : ℕ) → 2 ≤ order → order < to → to ≤ 4 → orders_embed order to ≡ given tt
unfolding orders_embed
embed_taken order to low above high = simp (le-leb 2 order low, lt-ltb order to above, le-leb to 4 high)

-- what the test leaves
pub orders_are : (order to : ℕ) → orders_embed order to ≡ given tt → (2 ≤ order) × ((order < to) × (to ≤ 4))
unfolding orders_embed
orders_are order to e =
    let t = both_true _ _ (passed _ _ e) in
    let u = both_true _ _ t.1 in
    (leb-true 2 order t.0, (ltb-true order to u.0, leb-true to 4 u.1))

-- ---- the entry

-- two tests, one after the other
in_turn : {A : Type 0} (a b : Outcome Unit) (o : Outcome A) → after a (after b o) ≡ after (after a b) o
in_turn (given u) b o = refl
in_turn (refused why) b o = refl

-- the tests of two lengths, and what is made behind them
abbrev pub tests : List Float → List Float → (input output : ℕ) → Outcome (List Float) → Outcome (List Float)
tests m entry input output o = after (number_is InputLength (length m) input) (after (number_is OutputLength (length entry) output) o)

module _ (order to : ℕ) {r : Result Unit Refusal} {entry exit : List Float} (m : List Float) where
  pub two_in_three : order ≡ 2 → to ≡ 3 → Left r entry exit (tests m entry 4 9 (given (numbers3 (embed23 (flat2 m))))) → Left r entry exit (embed order to m (length entry))
  unfolding embed fits_to orders_embed
  two_in_three from at told =
      rw (from, at, ← in_turn (number_is InputLength (length m) 4) (number_is OutputLength (length entry) 9) (embed_of 2 3 m)) told

  pub two_in_four : order ≡ 2 → to ≡ 4 → Left r entry exit (tests m entry 4 16 (given (numbers4 (embed24 (flat2 m))))) → Left r entry exit (embed order to m (length entry))
  unfolding embed fits_to orders_embed
  two_in_four from at told =
      rw (from, at, ← in_turn (number_is InputLength (length m) 4) (number_is OutputLength (length entry) 16) (embed_of 2 4 m)) told

  pub three_in_four : order ≡ 3 → to ≡ 4 → Left r entry exit (tests m entry 9 16 (given (numbers4 (embed34 (flat3 m))))) → Left r entry exit (embed order to m (length entry))
  unfolding embed fits_to orders_embed
  three_in_four from at told =
      rw (from, at, ← in_turn (number_is InputLength (length m) 9) (number_is OutputLength (length entry) 16) (embed_of 3 4 m)) told

-- what the test of the orders refuses is answered, and nothing is written
pub no_embedding : (order to : ℕ) {answer : Result Unit Refusal} {cause : Refusal} (entry m : List Float) → refused_for cause ≡ orders_embed order to → answer ≡ Err cause → Left answer entry entry (embed order to m (length entry))
unfolding embed fits_to
no_embedding order to entry m is answered = rw (sym is, answered) (record { answer = refl; left = refl })

-- what the test leaves beside 2 in 3
pub in_four : (order to : ℕ) → given tt ≡ orders_embed order to → order ≡ 2 → (to ≡ 3 → ⊥) → to ≡ 4
in_four order to e from three = let o = orders_are order to (sym e) in omega (arith, o.0, o.1.0, o.1.1, from, three)

pub last_two : (order to : ℕ) → given tt ≡ orders_embed order to → (order ≡ 2 → ⊥) → (order ≡ 3) × (to ≡ 4)
last_two order to e two = let o = orders_are order to (sym e) in (omega (arith, o.0, o.1.0, o.1.1, two), omega (arith, o.0, o.1.0, o.1.1, two))
