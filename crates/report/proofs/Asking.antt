-- The engine's answers about the floats of small whole numbers are the sums and cofactors of the numbers themselves, at every order.
-- Assumes nothing.
use Rattle.std.proofs.Common.{◌≡◌, ℕ, zero, suc, ◌+◌, ◌-◌, ◌*◌, ◌^◌, ◌<◌, ◌≤◌, List, [], map, get_or, ℤ, sym, ap, ◌∙◌, subst, inl, inr, eq-zero-or-pos, le_trans, lt_of_le_of_lt, mul-le-mul_right, suc-mul, arith, lit<, w64, to_z, of_z}
use denote.Param.Members.{Mut}
use Rattle.std.specs.List.{range_with_len}
use Rattle.std.specs.Fn.{Called}
use Rattle.std.specs.Array.{IsFromFnResultFrom, IsFromFnResult}
use lib.Signed.{mag}
use lib.Ieee.{Float, binary64, nan}
use Rattle.std.proofs.lemmas.List.FromFn.{get_or-map-range_with_len, fill_by_all}
use Rattle.vector.specs.Refusals.{Outcome, given}
use Rattle.vector.specs.Vectors.{entry}
use Rattle.vector.proofs.Checks.{within}
use Rattle.matrix.specs.Places.{at}
use Rattle.matrix.specs.declared.places.Column.{Column}
use Rattle.matrix.specs.declared.places.Row.{Row}
use Rattle.whole.specs.Order.{exact_signed_sum}
use Rattle.engine.specs.Whole.{Floats, whole_entries, numbers}
use Rattle.engine.specs.Engine.{taken, cofactor_of, signed_sum, cofactor}
use Rattle.engine.proofs.Signed.{back}
use Rattle.engine.proofs.Outcomes.{taken_yes, cofactor_ext}
use Rattle.engine.proofs.Readings.{Holds}
use Rattle.engine.proofs.General.{passes_true}
use Rattle.engine.proofs.Numbers.{taken_held, numbers_held, sum_held}
use Rattle.exact.proofs.Known.{Known, known_within, known_integer}
use Rattle.report.specs.Entries.{columns, SmallList, float_at, floats_from, array_of, AsFloats, number_in}

-- ---- the list

-- fewer numbers are small too
pub fewer : {k j : ℕ} {list : List ℤ} → j ≤ k → SmallList k list → SmallList j list
fewer h small = record { each = λ i l. small.each i (omega arith) }

-- a place of a matrix is a place of the list
pub place : (n c r : ℕ) → c < n → r < n → c * n + r < n * n
place n c r h l = omega (arith, mul-le-mul_right {m = suc c} {n = n} n h, suc-mul c n)

-- which has room for the entries
pub room : (n : ℕ) → n ≤ 4 → n * n ≤ 16
room n h = le_trans (mul-le-mul_right {m = n} {n = 4} n h) (omega arith)

-- ---- the arrays

-- what a closure that stays as it is gives of each number is the array
module _ {F B : Type 0} (g : Mut F (ℕ × Unit {0}) B) (f : F) (h : ℕ → B) (past : B) (call : (i : ℕ) (y : B) (q : F) → Called g f (i, tt) y q → (y ≡ h i) × (q ≡ f)) (ys : List B) where
  made_from : (n j i : ℕ) → IsFromFnResultFrom g f ys j n → j ≤ i → i < j + n → get_or ys i past ≡ h i
  made_from zero j i made low high = absurd (omega arith)
  made_from (suc n) j i made low high =
      let one = call j made.1 made.0 made.3 in
      elim (eq-zero-or-pos (i - j)) [
        | inl none ↦ subst (λ k. get_or ys k past ≡ h k) (omega (arith, none, low)) (made.2.1 past ∙ one.0)
        | inr some ↦ made_from n (j + 1) i (subst (λ (q : F). IsFromFnResultFrom g q ys (j + 1) n) one.1 made.4) (omega (arith, some)) (omega (arith, high))
      ]

  pub made_is : (n : ℕ) → IsFromFnResult g f ys n → ys ≡ map h (range_with_len 0 n)
  made_is n made = fill_by_all h ys n past made.long (λ i below. made_from n 0 i made.each (omega arith) (omega arith))

-- the entries of the array of the list are the list's floats
pub as_floats : (n : ℕ) (list : List ℤ) → AsFloats n list (at (array_of n list))
as_floats n list = record {
  each = λ c r h l. ap (λ (v : List Float). entry v r) (get_or-map-range_with_len (λ c. floats_from (c * n) n list) 0 n c c [] h (omega arith))
      ∙ get_or-map-range_with_len (λ r. float_at list (c * n + r)) 0 n r r nan l (omega arith);
}

-- ---- the numbers

-- the floats of small whole numbers hold them
pub floats_hold : (n : ℕ) (list : List ℤ) (e : Floats) → SmallList (n * n) list → AsFloats n list e → Holds n 1024 e (columns n list)
floats_hold n list e small floats c r h l =
    let few = small.each (c * n + r) (place n c r h l) in
    subst (λ (x : Float). Known x (columns n list c r) 0 1024) (sym (floats.each c r h l)) (known_within few (known_integer binary64 (columns n list c r) (lt_of_le_of_lt few (lit< tt))))

module _ (list : List ℤ) (n : ℕ) (e : Floats) (small : SmallList (n * n) list) (floats : AsFloats n list e) where
  holds : Holds n 1024 e (columns n list)
  holds = floats_hold n list e small floats

  -- so they are taken
  all_taken : taken 1024 n e ≡ given tt
  all_taken = taken_yes 1024 n e (passes_true (whole_entries 1024 n e) (taken_held 1024 n e (columns n list) (lit< tt) holds))

  -- the engine's sum
  sum_is : (z : ℤ) (o : Outcome ℤ) → o ≡ signed_sum 1024 n e → z ≡ number_in o → z ≡ exact_signed_sum n (columns n list)
  sum_is z o answered given_is = given_is ∙ rw (answered, all_taken) (sum_held 1024 n e (columns n list) (lit< tt) holds)

  -- the engine's cofactor
  cofactor_is : (z : ℤ) (o : Outcome ℤ) (c : Column) (r : Row) → c.0 < n → r.0 < n → o ≡ cofactor 1024 n e c r → z ≡ number_in o → z ≡ cofactor_of n (columns n list) c.0 r.0
  cofactor_is z o c r h l answered given_is =
      given_is ∙ rw (answered, within _ n c.0 h, within _ n r.0 l, all_taken)
      (cofactor_ext n (omega (arith, h)) (numbers e) (columns n list) (numbers_held 1024 n e (columns n list) (lit< tt) holds) c.0 r.0 h l)

-- ---- an arm of the match on the order: the matrix has n columns, and n is k
module _ {n : ℕ} {list : List ℤ} (all_small : SmallList 16 list) (k : ℕ) (few : k ≤ 4) (arm : n ≡ k) where
  -- its numbers are small
  pub small_arm : SmallList (k * k) list
  small_arm = fewer (room k few) all_small

  module _ {e : Floats} (floats : AsFloats k list e) {z : ℤ} (fits : mag z < 2 ^ 63) (o : Outcome ℤ) (given_is : z ≡ number_in o) where
    -- the number that the code holds is the sum
    pub arm_sum : o ≡ signed_sum 1024 k e → to_z w64 (of_z w64 z) ≡ exact_signed_sum n (columns n list)
    arm_sum answered = back z fits ∙ rw arm (sum_is list k e small_arm floats z o answered given_is)

    -- and the cofactor
    pub arm_cofactor : (c r : ℕ) → c < n → r < n → o ≡ cofactor 1024 k e (record { 0 = c }) (record { 0 = r }) → to_z w64 (of_z w64 z) ≡ cofactor_of n (columns n list) c r
    arm_cofactor c r h l answered = back z fits ∙ rw arm (cofactor_is list k e small_arm floats z o (record { 0 = c }) (record { 0 = r }) (rw arm at h) (rw arm at l) answered given_is)
