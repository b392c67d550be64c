-- A flat list of numbers, read by groups of n: its columns, its vectors, its points. Each is said once, whatever n.
-- Assumes nothing.
use Rattle.std.specs.Prelude.{ℕ, zero, suc, ◌*◌, ◌/◌, length, take, drop, Float}
use mathlib.Core.List.{List, [], ◌∷◌, flat_map}

-- the n numbers from place i on
abbrev pub part : ℕ → ℕ → List Float → List Float
part n i l = take n (drop i l)

-- group j of n numbers
abbrev pub group : ℕ → ℕ → List Float → List Float
group n j l = part n (j * n) l

-- the first k groups of n numbers
abbrev pub groups : ℕ → ℕ → List Float → List (List Float)
groups zero n l = []
groups (suc k) n l = take n l ∷ groups k n (drop n l)

-- each group of n numbers, made over by f, one after the other
unfoldable pub each : ℕ → (List Float → List Float) → List Float → List Float
each n f l = flat_map f (groups (length l / n) n l)
