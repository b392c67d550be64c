-- The range tests find what the table says, by the side of each number. Assumes nothing.
use Prim.Native.Nat.{ℕ}
use mathlib.Core.Path.{◌≡◌, refl, ap, ◌∙◌}
use mathlib.Core.Bool.{Bool, true, false, cond}
use lib.Dec.{ltb}
use Rattle.vector.specs.declared.refusal.Place.TheVariants.{First, Second}
use Rattle.vector.specs.declared.refusal.Refusal.{Refusal}
use Rattle.vector.specs.declared.refusal.Refusal.TheVariants as cause
use Rattle.vector.specs.Refusals.{Outcome, given, refused, refused_for, after, done, below_limit}
use Rattle.matrix.specs.Places.{row_below, column_below, rows_below, columns_below, elements_below}
use Rattle.matrix.specs.declared.places.Column.{Column}
use Rattle.matrix.specs.declared.places.Row.{Row}
use Rattle.engine.specs.Engine.{taken}
use Rattle.reference.specs.Ways.{Side, below, past, lone, one_place, two_rows, two_columns, two_places, WaysAt, Ways}

-- a test by its bit, and the side that the bit says
abbrev test : Refusal → Bool → Outcome Unit
test cause b = cond b (given tt) (refused_for cause)

abbrev by : Bool → Side
by b = cond b below past

one : (a : Bool) → test (cause.Row First) a ≡ lone (by a)
one true = refl
one false = refl

place : (a b : Bool) → after (test (cause.Column First) a) (test (cause.Row First) b) ≡ one_place (by a) (by b)
place true true = refl
place true false = refl
place false true = refl
place false false = refl

rows : (a b : Bool) → after (test (cause.Row First) a) (test (cause.Row Second) b) ≡ two_rows (by a) (by b)
rows true true = refl
rows true false = refl
rows false true = refl
rows false false = refl

columns : (a b : Bool) → after (test (cause.Column First) a) (test (cause.Column Second) b) ≡ two_columns (by a) (by b)
columns true true = refl
columns true false = refl
columns false true = refl
columns false false = refl

elements : (a b c d : Bool) → after (test (cause.Column First) a) (after (test (cause.Row First) b) (after (test (cause.Column Second) c) (test (cause.Row Second) d))) ≡ two_places (by a) (by b) (by c) (by d)
elements true true true true = refl
elements true true true false = refl
elements true true false true = refl
elements true true false false = refl
elements true false true true = refl
elements true false true false = refl
elements true false false true = refl
elements true false false false = refl
elements false true true true = refl
elements false true true false = refl
elements false true false true = refl
elements false true false false = refl
elements false false true true = refl
elements false false true false = refl
elements false false false true = refl
elements false false false false = refl

-- a check and then values: done or refused is what the check found
found : {A : Type 0} (check : Outcome Unit) (v : A) → done (after check (given v)) ≡ check
found (given u) v = refl
found (refused why) v = refl

-- checks, one after the other, before the values
found_two : {A : Type 0} (first second : Outcome Unit) (v : A) → done (after first (after second (given v))) ≡ after first second
found_two (given u) second v = found second v
found_two (refused why) second v = refl

found_three : {A : Type 0} (first second third : Outcome Unit) (v : A) → done (after first (after second (after third (given v)))) ≡ after (after first second) third
found_three (given u) second third v = found_two second third v
found_three (refused why) second third v = refl

-- ---- over the order

module _ (n : ℕ) {M R : Type 0} (row : M → Row → R) (swap-rows : M → Row → Row → M) (swap-columns : M → Column → Column → M) (swap-elements : M → Column → Row → Column → Row → M) where
  at_order : WaysAt n M R (λ m r. after (row_below n First r) (given (row m r))) (λ m a b. after (rows_below n a b) (given (swap-rows m a b))) (λ m a b. after (columns_below n a b) (given (swap-columns m a b))) (λ m ac ar bc br. after (elements_below n ac ar bc br) (given (swap-elements m ac ar bc br)))
  unfolding below_limit rows_below columns_below elements_below
  at_order = record {
    row_found = λ m r. found (row_below n First r) _ ∙ one (ltb r.0 n);
    rows_found = λ m a b. found (rows_below n a b) _ ∙ rows (ltb a.0 n) (ltb b.0 n);
    columns_found = λ m a b. found (columns_below n a b) _ ∙ columns (ltb a.0 n) (ltb b.0 n);
    elements_found = λ m ac ar bc br. found (elements_below n ac ar bc br) _ ∙ elements (ltb ac.0 n) (ltb ar.0 n) (ltb bc.0 n) (ltb br.0 n);
  }

pub ways : Ways
unfolding below_limit
ways = record {
  order2 = at_order 2 _ _ _ _;
  order3 = at_order 3 _ _ _ _;
  order4 = at_order 4 _ _ _ _;
  dropped = λ v n. found (below_limit (cause.Row First) 4 n) _ ∙ one (ltb n 4);
  cofactors = λ limit n e c r. found_three (column_below n First c) (row_below n First r) (taken limit n e) _ ∙ ap (λ o. after o (taken limit n e)) (place (ltb c.0 n) (ltb r.0 n));
}
