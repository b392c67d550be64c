-- A number has exactly one bit set exactly if it is a power of two: the count of ones decides whether a sum is plus or minus a power of two.
-- Assumes nothing.
use Rattle.std.proofs.Common.{◌≡◌, ℕ, zero, suc, ◌*◌, ◌/◌, ◌%◌, ◌^◌, ◌≤◌, ◌⊎◌, sym, refl, ap, ◌∙◌, inl, inr, le_refl, add-zero, one-mul, pow-suc, arith, eqb→eq, pow_pos}
use lib.Arith.{le-zero, half_le}
use lib.Count.{ones, ones_step, ones_cat}
use lib.Ieee.Fits.{eq→eqb}
use Rattle.engine.specs.Engine.{is_one_bit, OneBitIsPower}

-- a number with no bit set is 0
none_set : (fuel n : ℕ) → n ≤ fuel → ones n ≡ 0 → n ≡ 0
none_set zero n h e = omega arith
none_set (suc fuel) n h e =
    let step = ones_step n in
    let rest : n / 2 ≡ 0 = none_set fuel (n / 2) (half_le h) (omega arith) in
    omega (arith, step)

-- the lowest digit is 0 or 1
digit : (n : ℕ) → (n % 2 ≡ 0) ⊎ (n % 2 ≡ 1)
digit zero = inl refl
digit (suc zero) = inr refl
digit (suc (suc n)) = by_digit (digit n)
  where
    by_digit : (n % 2 ≡ 0) ⊎ (n % 2 ≡ 1) → (suc (suc n) % 2 ≡ 0) ⊎ (suc (suc n) % 2 ≡ 1)
    by_digit (inl e) = inl (omega arith)
    by_digit (inr e) = inr (omega arith)

-- 0 has none
zero_set : ones 0 ≡ 0
unfolding ones
zero_set = refl

-- a number with one bit set is a power of two
one_set : (fuel n : ℕ) → n ≤ fuel → ones n ≡ 1 → (k : ℕ) × (n ≡ 2 ^ k)
one_set zero n h e = let none : ones n ≡ 0 = ap ones (le-zero h) ∙ zero_set in absurd (omega arith)
one_set (suc fuel) n h e = by_digit (one_set fuel (n / 2) (half_le h)) (digit n)
  where
    by_digit : (ones (n / 2) ≡ 1 → (k : ℕ) × (n / 2 ≡ 2 ^ k)) → (n % 2 ≡ 0) ⊎ (n % 2 ≡ 1) → (k : ℕ) × (n ≡ 2 ^ k)
    by_digit rest (inl even) =
        let step = ones_step n in
        let s = rest (omega arith) in
        let half : n / 2 ≡ 2 ^ s.0 = s.1 in
        let double = pow-suc 2 s.0 in
        (suc s.0, omega arith)
    by_digit rest (inr odd) =
        let step = ones_step n in
        let half : n / 2 ≡ 0 = none_set (n / 2) (n / 2) (le_refl (n / 2)) (omega arith) in
        let is : n ≡ 1 = omega arith in
        (0, is)

-- a power of two has one bit set
power_set : (k : ℕ) → ones (2 ^ k) ≡ 1
unfolding ones
power_set k = ap ones (sym (add-zero (1 * 2 ^ k) ∙ one-mul (2 ^ k))) ∙ ones_cat k 1 0 (pow_pos k)

-- so the count of ones tells the powers of two
pub one_bit : OneBitIsPower
unfolding is_one_bit
one_bit n = (λ t. one_set n n (le_refl n) (eqb→eq (ones n) 1 t), λ p. eq→eqb (ap ones p.1 ∙ power_set p.0))
