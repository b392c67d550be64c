-- The one law of an entry, whatever its order and its width: what the arm of its order answers and leaves is the entry's outcome,
-- and an order that has no arm is refused. Assumes nothing.
use mathlib.Core.Path.{◌≡◌, refl, ap, ◌∙◌}
use mathlib.Core.List.{List, [], ◌∷◌}
use Prim.Native.Nat.{ℕ, zero, suc, ◌*◌, ◌^◌, ◌≤◌}
use native.Mathlib.Omega.{arith}
use lib.Ieee.{Float}
use mathlib.Core.Bool.{cond}
use lib.Dec.{eqb, lit≤}
use lib.ListN.{length}
use Rattle.std.specs.Prelude.{Result, Err}
use Rattle.vector.specs.declared.refusal.Refusal.{Refusal}
use Rattle.vector.specs.declared.refusal.Refusal.TheVariants.{InputLength, OutputLength, Order}
use Rattle.vector.specs.Refusals.{Outcome, given, refused, refused_for, outcome, after, done}
use Rattle.matrix.specs.declared.records.Matrix2.{Matrix2}
use Rattle.matrix.specs.declared.records.Matrix3.{Matrix3}
use Rattle.matrix.specs.declared.records.Matrix4.{Matrix4}
use Rattle.bulk.specs.Moves.{flat2, flat3, flat4}
use Rattle.bulk.specs.Refusals.{order_from, number_is}
use Rattle.bulk.proofs.Checks.{order_taken, order_high}
use Rattle.migthumo.specs.Made.{Left}
use Rattle.migthumo.specs.Entries.{code, Answers, entry_fits, by_order}
use Rattle.migthumo.specs.Flat.{numbers3, numbers4}
use Rattle.migthumo.specs.Boundary.{of_one, of_two, rotation_of}

-- ---- what is answered and left

-- done or refused, the number is the same
of_done : {A : Type 0} (o : Outcome A) → code (done o) ≡ code o
of_done (given a) = refl
of_done (refused why) = refl

-- the answer of a branch, as the number that is answered for it
pub answers : {A : Type 0} {u : ℕ} {answer r : Result Unit Refusal} {entry exit out : A} (o : Outcome A)
    → u ≡ code (outcome answer) → answer ≡ r → out ≡ exit → Left r entry exit o → Answers u entry out o
answers {entry = entry} o is branch left told =
    record { answer = is ∙ ap code (ap outcome branch ∙ told.answer) ∙ of_done o; left = left ∙ told.left }

-- ---- the tests, in the order that the code makes them

first : {A : Type 0} (a b : Outcome Unit) (o : Outcome A) → after a (after b o) ≡ after (after (after a (given tt)) b) o
first (given u) b o = refl
first (refused why) b o = refl

second : {A : Type 0} (a b c : Outcome Unit) (o : Outcome A) → after a (after b (after c o)) ≡ after (after (after a (after b (given tt))) c) o
second (given u) b c o = first b c o
second (refused why) b c o = refl

module _ {A : Type 0} (width n : ℕ) (low : 2 ≤ n) (high : n ≤ 4) where
  fit1 : (m out : ℕ) (o : Outcome A)
      → after (number_is InputLength m (n * n)) (after (number_is OutputLength out (n ^ width)) o) ≡ after (entry_fits 2 n (m ∷ []) width out) o
  unfolding entry_fits
  fit1 m out o = rw (order_taken 2 n low high) (first (number_is InputLength m (n * n)) (number_is OutputLength out (n ^ width)) o)

  fit2 : (a b out : ℕ) (o : Outcome A)
      → after (number_is InputLength a (n * n)) (after (number_is InputLength b (n * n)) (after (number_is OutputLength out (n ^ width)) o)) ≡ after (entry_fits 2 n (a ∷ b ∷ []) width out) o
  unfolding entry_fits
  fit2 a b out o = rw (order_taken 2 n low high) (second (number_is InputLength a (n * n)) (number_is InputLength b (n * n)) (number_is OutputLength out (n ^ width)) o)

-- ---- the arm of an order

module _ {A : Type 0} {u order : ℕ} {answer r : Result Unit Refusal} {entry exit out : List A} (is : u ≡ code (outcome answer)) (branch : answer ≡ r) (left : out ≡ exit) where
  module _ (width : ℕ) (m : List Float) (f : Matrix2 → Outcome (List A)) (g : Matrix3 → Outcome (List A)) (h : Matrix4 → Outcome (List A)) where
    -- of one matrix
    one : (n : ℕ) → 2 ≤ n → n ≤ 4 → order ≡ n
        → Left r entry exit (after (number_is InputLength (length m) (n * n)) (after (number_is OutputLength (length entry) (n ^ width)) (by_order n (f (flat2 m)) (g (flat3 m)) (h (flat4 m)))))
        → Answers u entry out (of_one width order m (length entry) f g h)
    unfolding of_one
    one n low high at told =
        rw (at, ← fit1 width n low high (length m) (length entry) (by_order n (f (flat2 m)) (g (flat3 m)) (h (flat4 m))))
        (answers (after (number_is InputLength (length m) (n * n)) (after (number_is OutputLength (length entry) (n ^ width)) (by_order n (f (flat2 m)) (g (flat3 m)) (h (flat4 m))))) is branch left told)

    pub one2 : order ≡ 2 → Left r entry exit (after (number_is InputLength (length m) 4) (after (number_is OutputLength (length entry) (2 ^ width)) (f (flat2 m)))) → Answers u entry out (of_one width order m (length entry) f g h)
    one2 = one 2 (lit≤ tt) (lit≤ tt)

    pub one3 : order ≡ 3 → Left r entry exit (after (number_is InputLength (length m) 9) (after (number_is OutputLength (length entry) (3 ^ width)) (g (flat3 m)))) → Answers u entry out (of_one width order m (length entry) f g h)
    one3 = one 3 (lit≤ tt) (lit≤ tt)

    pub one4 : order ≡ 4 → Left r entry exit (after (number_is InputLength (length m) 16) (after (number_is OutputLength (length entry) (4 ^ width)) (h (flat4 m)))) → Answers u entry out (of_one width order m (length entry) f g h)
    one4 = one 4 (lit≤ tt) (lit≤ tt)

  module _ (width : ℕ) (a b : List Float) (f : Matrix2 → Matrix2 → Outcome (List A)) (g : Matrix3 → Matrix3 → Outcome (List A)) (h : Matrix4 → Matrix4 → Outcome (List A)) where
    -- of two matrices
    two : (n : ℕ) → 2 ≤ n → n ≤ 4 → order ≡ n
        → Left r entry exit (after (number_is InputLength (length a) (n * n)) (after (number_is InputLength (length b) (n * n)) (after (number_is OutputLength (length entry) (n ^ width)) (by_order n (f (flat2 a) (flat2 b)) (g (flat3 a) (flat3 b)) (h (flat4 a) (flat4 b))))))
        → Answers u entry out (of_two width order a b (length entry) f g h)
    unfolding of_two
    two n low high at told =
        rw (at, ← fit2 width n low high (length a) (length b) (length entry) (by_order n (f (flat2 a) (flat2 b)) (g (flat3 a) (flat3 b)) (h (flat4 a) (flat4 b))))
        (answers (after (number_is InputLength (length a) (n * n)) (after (number_is InputLength (length b) (n * n)) (after (number_is OutputLength (length entry) (n ^ width)) (by_order n (f (flat2 a) (flat2 b)) (g (flat3 a) (flat3 b)) (h (flat4 a) (flat4 b)))))) is branch left told)

    pub two2 : order ≡ 2 → Left r entry exit (after (number_is InputLength (length a) 4) (after (number_is InputLength (length b) 4) (after (number_is OutputLength (length entry) (2 ^ width)) (f (flat2 a) (flat2 b))))) → Answers u entry out (of_two width order a b (length entry) f g h)
    two2 = two 2 (lit≤ tt) (lit≤ tt)

    pub two3 : order ≡ 3 → Left r entry exit (after (number_is InputLength (length a) 9) (after (number_is InputLength (length b) 9) (after (number_is OutputLength (length entry) (3 ^ width)) (g (flat3 a) (flat3 b))))) → Answers u entry out (of_two width order a b (length entry) f g h)
    two3 = two 3 (lit≤ tt) (lit≤ tt)

    pub two4 : order ≡ 4 → Left r entry exit (after (number_is InputLength (length a) 16) (after (number_is InputLength (length b) 16) (after (number_is OutputLength (length entry) (4 ^ width)) (h (flat4 a) (flat4 b))))) → Answers u entry out (of_two width order a b (length entry) f g h)
    two4 = two 4 (lit≤ tt) (lit≤ tt)

-- a rotation
module _ {u order : ℕ} {answer r : Result Unit Refusal} {entry exit out : List Float} (is : u ≡ code (outcome answer)) (branch : answer ≡ r) (left : out ≡ exit) (three : Matrix3) (four : Matrix4) where
  pub rotation3 : order ≡ 3 → Left r entry exit (after (number_is OutputLength (length entry) 9) (given (numbers3 three))) → Answers u entry out (rotation_of order (length entry) three four)
  unfolding rotation_of entry_fits order_from
  rotation3 at told = rw at (answers (after (number_is OutputLength (length entry) 9) (given (numbers3 three))) is branch left told)

  pub rotation4 : order ≡ 4 → Left r entry exit (after (number_is OutputLength (length entry) 16) (given (numbers4 four))) → Answers u entry out (rotation_of order (length entry) three four)
  unfolding rotation_of entry_fits order_from
  rotation4 at told = rw at (answers (after (number_is OutputLength (length entry) 16) (given (numbers4 four))) is branch left told)

-- ---- an order that has no arm

not2 : (order : ℕ) → (order ≡ 2 → ⊥) → (order ≡ 3 → ⊥) → (order ≡ 4 → ⊥) → order_from 2 order ≡ refused_for Order
unfolding order_from
not2 zero two three four = refl
not2 (suc zero) two three four = refl
not2 (suc (suc zero)) two three four = absurd (two refl)
not2 (suc (suc (suc zero))) two three four = absurd (three refl)
not2 (suc (suc (suc (suc zero)))) two three four = absurd (four refl)
not2 (suc (suc (suc (suc (suc n))))) two three four = order_high 2 (suc (suc (suc (suc (suc n))))) (omega arith) (omega arith)

not3 : (order : ℕ) → (order ≡ 3 → ⊥) → (order ≡ 4 → ⊥) → order_from 3 order ≡ refused_for Order
unfolding order_from
not3 zero three four = refl
not3 (suc zero) three four = refl
not3 (suc (suc zero)) three four = refl
not3 (suc (suc (suc zero))) three four = absurd (three refl)
not3 (suc (suc (suc (suc zero)))) three four = absurd (four refl)
not3 (suc (suc (suc (suc (suc n))))) three four = order_high 3 (suc (suc (suc (suc (suc n))))) (omega arith) (omega arith)

module _ {A : Type 0} {u : ℕ} {answer : Result Unit Refusal} {entry out : A} (is : u ≡ code (outcome answer)) (refuses : answer ≡ Err Order) (kept : out ≡ entry) where
  -- 5 is answered, and nothing is written, whatever would follow
  pub order_refused : (check : Outcome Unit) (o : Outcome A) → check ≡ refused_for Order → Answers u entry out (after check o)
  order_refused check o e = rw e (record { answer = is ∙ ap code (ap outcome refuses); left = kept })

module _ {A : Type 0} {u order : ℕ} {answer : Result Unit Refusal} {entry out : List A} (is : u ≡ code (outcome answer)) (refuses : answer ≡ Err Order) (kept : out ≡ entry) (width : ℕ) where
  pub none1 : (m : List Float) (f : Matrix2 → Outcome (List A)) (g : Matrix3 → Outcome (List A)) (h : Matrix4 → Outcome (List A))
      → (order ≡ 2 → ⊥) → (order ≡ 3 → ⊥) → (order ≡ 4 → ⊥) → Answers u entry out (of_one width order m (length entry) f g h)
  unfolding of_one entry_fits
  none1 m f g h two three four =
      order_refused is refuses kept (entry_fits 2 order (length m ∷ []) width (length entry)) (by_order order (f (flat2 m)) (g (flat3 m)) (h (flat4 m))) (rw (not2 order two three four))

  pub none2 : (a b : List Float) (f : Matrix2 → Matrix2 → Outcome (List A)) (g : Matrix3 → Matrix3 → Outcome (List A)) (h : Matrix4 → Matrix4 → Outcome (List A))
      → (order ≡ 2 → ⊥) → (order ≡ 3 → ⊥) → (order ≡ 4 → ⊥) → Answers u entry out (of_two width order a b (length entry) f g h)
  unfolding of_two entry_fits
  none2 a b f g h two three four =
      order_refused is refuses kept (entry_fits 2 order (length a ∷ length b ∷ []) width (length entry)) (by_order order (f (flat2 a) (flat2 b)) (g (flat3 a) (flat3 b)) (h (flat4 a) (flat4 b))) (rw (not2 order two three four))

pub no_rotation : {u order : ℕ} {answer : Result Unit Refusal} {entry out : List Float} → u ≡ code (outcome answer) → answer ≡ Err Order → out ≡ entry → (three : Matrix3) (four : Matrix4)
    → (order ≡ 3 → ⊥) → (order ≡ 4 → ⊥) → Answers u entry out (rotation_of order (length entry) three four)
unfolding rotation_of entry_fits
no_rotation {order = order} {entry = entry} is refuses kept three four ne3 ne4 =
    order_refused is refuses kept (entry_fits 3 order [] 2 (length entry)) (cond (eqb order 3) (given (numbers3 three)) (given (numbers4 four))) (rw (not3 order ne3 ne4))
