-- What the exact value of a float is, which floats are whole numbers up to a limit, and which two are numerically equal.
-- Definitions only. Assumes nothing.
use Rattle.std.specs.Prelude.{◌≡◌, Bool, true, false, ℕ, ◌*◌, ◌^◌, ◌≤◌, T, ℤ, pos, neg_ℤ, nat_abs, ◌*ℤ◌, Float}
use Rattle.std.specs.Float.{fin}
use Rattle.std.specs.Float.Ieee.{up, down, eq}

-- the whole number of magnitude n, negative where s is true; where n is 0 it is 0 either way
abbrev pub signed : Bool → ℕ → ℤ
signed true n = neg_ℤ (pos n)
signed false n = pos n

-- `Exact x z k`: x is finite and its exact value is z / 2 ^ k. That is, x is ±m * 2 ^ e, 2 ^ e is up e / down e, and ±(m * up e) / down e = z / 2 ^ k, multiplied across
pub data Exact : Float → ℤ → ℕ → Type 0 where
  exactly : {s : Bool} {m : ℕ} {e z : ℤ} {k : ℕ} → signed s (m * up e) *ℤ pos (2 ^ k) ≡ z *ℤ pos (down e) → Exact (fin s m e) z k

-- x is a whole number of magnitude at most b; -0.0 is the whole number 0
pub record Whole (b : ℕ) (x : Float) : Type 0 where
  pub number : ℤ
  pub exact : Exact x number 0
  pub within : nat_abs number ≤ b

-- x and y are numerically equal, as `==` has it: -0.0 and 0.0 are, and NaN is equal to nothing
abbrev pub Equal : Float → Float → Type 0
Equal x y = T (eq x y)
