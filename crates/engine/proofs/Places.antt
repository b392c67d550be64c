-- A test at all places below an order, and what it says at each: one test computes, and one law turns it into the rule.
-- Assumes nothing.
use Rattle.std.proofs.Common.{ℕ, zero, suc, ◌<◌, Bool, T, ◌↔◌, suc-le-suc, le_of_suc-le-suc, not-suc-le-zero, zero-lt-suc}
use lib.Ieee.Fits.{and_l, and_r, and_i}
use Rattle.engine.specs.Whole.{all_below, all_places}

-- the test below n passes exactly if it passes at each number below n
pub all_below_lem : (n : ℕ) (test : ℕ → Bool) → T (all_below n test) ↔ ((i : ℕ) → i < n → T (test i))
all_below_lem zero test = (λ t i h. absurd (not-suc-le-zero h), λ each. tt)
all_below_lem (suc n) test =
    let rest : ℕ → Bool = λ i. test (suc i) in
    let more = all_below_lem n rest in
    (λ t. at_each (and_l (test 0) (all_below n rest) t) (more.0 (and_r (test 0) (all_below n rest) t)), λ each. and_i (test 0) (all_below n rest) (each 0 (zero-lt-suc n)) (more.1 (λ i h. each (suc i) (suc-le-suc h))))
  where
    at_each : T (test 0) → ((i : ℕ) → i < n → T (test (suc i))) → (i : ℕ) → i < suc n → T (test i)
    at_each first more zero h = first
    at_each first more (suc i) h = more i (le_of_suc-le-suc h)

-- the test at all places passes exactly if it passes at each column and row below n
pub all_places_lem : (n : ℕ) (test : ℕ → ℕ → Bool) → T (all_places n test) ↔ ((c r : ℕ) → c < n → r < n → T (test c r))
all_places_lem n test = (
  λ t c r h l. (all_below_lem n (test c)).0 ((all_below_lem n (λ c. all_below n (λ r. test c r))).0 t c h) r l,
  λ each. (all_below_lem n (λ c. all_below n (λ r. test c r))).1 (λ c h. (all_below_lem n (test c)).1 (λ r l. each c r h l)),
)

-- ---- places by name

-- what holds at 0 and 1 holds below two; so below three and below four
pub below_two : (P : ℕ → Type 0) → P 0 → P 1 → (i : ℕ) → i < 2 → P i
below_two P a b zero h = a
below_two P a b (suc zero) h = b
below_two P a b (suc (suc i)) h = absurd (not-suc-le-zero (le_of_suc-le-suc (le_of_suc-le-suc h)))

pub below_three : (P : ℕ → Type 0) → P 0 → P 1 → P 2 → (i : ℕ) → i < 3 → P i
below_three P a b c zero h = a
below_three P a b c (suc i) h = below_two (λ i. P (suc i)) b c i (le_of_suc-le-suc h)

pub below_four : (P : ℕ → Type 0) → P 0 → P 1 → P 2 → P 3 → (i : ℕ) → i < 4 → P i
below_four P a b c d zero h = a
below_four P a b c d (suc i) h = below_three (λ i. P (suc i)) b c d i (le_of_suc-le-suc h)
