-- The numbers other than c, as `skip c` counts them.
-- Assumes nothing.
use mathlib.Core.Path.{◌≡◌, refl, ap}
use mathlib.Core.Logic.{◌≢◌}
use Prim.Native.Nat.{ℕ, zero, suc, ◌≤◌, ◌<◌, zero-le, suc-le-suc}
use native.Mathlib.Nat.{le_of_suc-le-suc, zero-lt-suc, not-suc-le-zero, suc_inj}
use native.Mathlib.Omega.{arith}
use Rattle.whole.specs.Order.{skip}

-- they are other than c
pub skip_apart : (c j : ℕ) → c ≢ skip c j
skip_apart zero j e = omega arith
skip_apart (suc c) zero e = omega arith
skip_apart (suc c) (suc j) e = skip_apart c j (suc_inj e)

-- none is counted twice
pub skip_inj : (c i j : ℕ) → skip c i ≡ skip c j → i ≡ j
skip_inj zero i j e = suc_inj e
skip_inj (suc c) zero zero e = refl
skip_inj (suc c) zero (suc j) e = absurd (omega arith)
skip_inj (suc c) (suc i) zero e = absurd (omega arith)
skip_inj (suc c) (suc i) (suc j) e = ap suc (skip_inj c i j (suc_inj e))

-- of n + 1 numbers, n are other than c
pub skip_le : (n c j : ℕ) → c ≤ n → j < n → skip c j ≤ n
skip_le n zero j h l = l
skip_le n (suc c) zero h l = zero-le
skip_le zero (suc c) (suc j) h l = absurd (not-suc-le-zero l)
skip_le (suc n) (suc c) (suc j) h l = suc-le-suc (skip_le n c j (le_of_suc-le-suc h) (le_of_suc-le-suc l))

-- and no more than n
pub skip_lt : (n c j : ℕ) → c ≤ n → skip c j ≤ n → j < n
skip_lt n zero j h l = l
skip_lt zero (suc c) j h l = absurd (not-suc-le-zero h)
skip_lt (suc n) (suc c) zero h l = zero-lt-suc n
skip_lt (suc n) (suc c) (suc j) h l = suc-le-suc (skip_lt n c j (le_of_suc-le-suc h) (le_of_suc-le-suc l))

-- a number is c, or one of the others
pub data Place (c : ℕ) : ℕ → Type 0 where
  here : Place c c
  there : (j : ℕ) → Place c (skip c j)

-- the same one number up
place_suc : {c j : ℕ} → Place c j → Place (suc c) (suc j)
place_suc here = here
place_suc (there j) = there (suc j)

-- which of the two
pub place : (c j : ℕ) → Place c j
place zero zero = here
place zero (suc j) = there j
place (suc c) zero = there zero
place (suc c) (suc j) = place_suc (place c j)
