-- Whole numbers as the code holds them, in 64 bits with a sign, and how they are written.
-- Assumes nothing.
use Rattle.std.proofs.Common.{◌≡◌, ℕ, ◌^◌, ◌<◌, ◌≤◌, min, Bool, true, false, T, ◌&&◌, leb, [], ◌∷◌, ◌++◌, length, ℤ, pos, negsuc, ◌-ℤ◌, neg_ℤ, nat_abs, sym, refl, ap, ◌∙◌, subst, lt_of_le_of_lt, arith, lit<, w64, to_z, of_z, ltb-true, le-leb, leb-true}
use borrow.Author.Tests.{lt-leb}
use lib.IntN.{+ℤ_idl}
use lib.Signed.{mag, lt_z}
use mir.ValLaws.{to_z_pos}
use Rattle.std.specs.List.{list_all}
use Rattle.engine.proofs.Signed.{back, small_back}
use Rattle.whole.proofs.Ring.{abs_neg}
use Rattle.exact.specs.Value.{signed}
use Rattle.report.specs.Words.{all, negative, digits_of, is_digit, is_number, value, number_of, fits}
use Rattle.report.specs.Text.{Bytes, text, decimal, whole}

-- the test below zero, of the number itself
pub tested : (z : ℤ) (b : Bool) → mag z < 2 ^ 63 → lt_z (to_z w64 (of_z w64 z)) (pos 0) ≡ b → lt_z z (pos 0) ≡ b
tested z b h t = sym (ap (λ (z : ℤ). lt_z z (pos 0)) (back z h)) ∙ t

-- true is not false
pub differ : {A : Type 0} → true ≡ false → A
differ e = absurd (subst T e tt)

-- below zero no number has no sign
never_below : {A : Type 0} (n : ℕ) → lt_z (pos n) (pos 0) ≡ true → A
never_below n t = absurd (omega (arith, ltb-true n 0 t))

-- the magnitude of a number with its sign
magnitude : (b : Bool) (n : ℕ) → nat_abs (signed b n) ≡ n
magnitude true n = abs_neg (pos n)
magnitude false n = refl

-- what the code holds of a number
abbrev pub held : ℤ → ℤ
held z = to_z w64 (of_z w64 z)

-- a number below zero is written with a minus sign
pub negative_text : (z : ℤ) (n : ℕ) → mag z < 2 ^ 63 → lt_z (held z) (pos 0) ≡ true → n ≡ nat_abs (held z) → text "-" ++ decimal n ≡ whole z
unfolding whole
negative_text z n h t e = by_sign z (tested z true h t) (rw (back z h) at e)
  where
    by_sign : (z : ℤ) → lt_z z (pos 0) ≡ true → n ≡ nat_abs z → text "-" ++ decimal n ≡ whole z
    by_sign (pos k) t e = never_below k t
    by_sign (negsuc k) t e = rw e

-- and any other without
pub other_text : (z : ℤ) (n : ℕ) → mag z < 2 ^ 63 → lt_z (held z) (pos 0) ≡ false → n ≡ nat_abs (held z) → decimal n ≡ whole z
unfolding whole
other_text z n h t e = by_sign z (tested z false h t) (rw (back z h) at e)
  where
    by_sign : (z : ℤ) → lt_z z (pos 0) ≡ false → n ≡ nat_abs z → decimal n ≡ whole z
    by_sign (pos k) t e = rw e
    by_sign (negsuc k) t e = differ t

-- ---- a magnitude of at most 1024, with its sign

-- the code subtracts it from 0
minus : (n : ℕ) → n ≤ 1024 → pos 0 -ℤ to_z w64 n ≡ neg_ℤ (pos n)
minus n h = rw (to_z_pos w64 n (lt_of_le_of_lt h (lit< tt))) (+ℤ_idl (neg_ℤ (pos n)))

magnitude_few : (n : ℕ) → n ≤ 1024 → nat_abs (neg_ℤ (pos n)) ≤ 1024
magnitude_few n h = rw (abs_neg (pos n)) h

-- every member passes
all_is : (test : ℕ → Bool) (w : Bytes) → list_all test w ≡ all test w
all_is test [] = refl
all_is test (b ∷ w) = rw (all_is test w)

module _ (w d : Bytes) (is : d ≡ digits_of w) where
  -- a word without digits does not fit
  pub no_digits : length d ≡ 0 → fits w ≡ false
  unfolding fits is_number
  no_digits none = rw (← is, lt-leb 1 (length d) (omega (arith, none)))

  -- nor does one with another byte
  pub no_number : list_all is_digit d ≡ false → fits w ≡ false
  unfolding fits is_number
  no_number other = rw (← is, ← all_is is_digit d, other) (by_test (leb 1 (length d)))
    where
      by_test : (t : Bool) → (t && false) && leb (value 0 d) 1024 ≡ false
      by_test true = refl
      by_test false = refl

  module _ (m : ℕ) (capped : m ≡ min 1025 (value 0 d)) where
    -- nor one with a larger number
    pub too_large : 1024 < m → fits w ≡ false
    unfolding fits
    too_large more = by_test (is_number w)
      where
        by_test : (t : Bool) → t && leb (value 0 (digits_of w)) 1024 ≡ false
        by_test true = rw (← is) (lt-leb (value 0 d) 1024 (omega (arith, capped)))
        by_test false = refl

    module _ (some : length d ≡ 0 → ⊥) (every : list_all is_digit d ≡ true) (few : m ≤ 1024) where
      -- any other fits
      pub fitting : fits w ≡ true
      unfolding fits is_number
      fitting = rw (← is, le-leb 1 (length d) (omega (arith, some)), ← all_is is_digit d, every, le-leb (value 0 d) 1024 (omega (arith, capped)))

      value_is : value 0 (digits_of w) ≡ m
      value_is = rw (← is) (omega (arith, capped))

      -- the number that the code makes of it, below zero and not
      pub read_negative : negative w ≡ true → to_z w64 (of_z w64 (pos 0 -ℤ to_z w64 m)) ≡ number_of w
      read_negative t = rw (t, value_is, minus m few, small_back (neg_ℤ (pos m)) (magnitude_few m few) (lit< tt))

      pub read_other : negative w ≡ false → to_z w64 m ≡ number_of w
      read_other t = rw (t, value_is, to_z_pos w64 m (lt_of_le_of_lt few (lit< tt)))

-- a word that fits is a number of magnitude at most 1024
pub fits_small : (w : Bytes) → fits w ≡ true → nat_abs (number_of w) ≤ 1024
unfolding fits
fits_small w = by_test (is_number w)
  where
    by_test : (t : Bool) → t && leb (value 0 (digits_of w)) 1024 ≡ true → nat_abs (number_of w) ≤ 1024
    by_test true e = rw (magnitude (negative w) (value 0 (digits_of w))) (leb-true (value 0 (digits_of w)) 1024 e)
    by_test false e = differ (sym e)
