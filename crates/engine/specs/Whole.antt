-- Document 01, 'The exact engine': which entries are taken, and as which whole numbers.
-- One test says it, at each place below the order. Assumes nothing.
use Rattle.std.specs.Prelude.{◌≡◌, ℕ, zero, suc, ◌<◌, ◌≤◌, Bool, true, false, ◌&&◌, Result, MatchResult, List, [], ◌∷◌, ℤ, pos, nat_le, slice_index_or, unsigned_abs, Float}
use Rattle.std.specs.Float.{binary64}
use Rattle.std.specs.Float.Ieee.{eq, of_int, to_signed}
use Rattle.vector.specs.declared.refusal.Refusal.{Refusal}
use Rattle.vector.specs.declared.refusal.Refusal.TheVariants.{NotWhole}
use Rattle.whole.specs.Matrix.{Matrix}
use Rattle.whole.specs.Order.{skip}
use Rattle.exact.specs.Value.{Whole}
use Rattle.matrix.specs.Records.{array2, array3, array4}
use Rattle.matrix.specs.Places.{at}
use Rattle.matrix.specs.declared.records.Matrix2.{Matrix2}
use Rattle.matrix.specs.declared.records.Matrix3.{Matrix3}
use Rattle.matrix.specs.declared.records.Matrix4.{Matrix4}

-- ---- the test of one entry

-- the whole number of a float, as an i64 takes it (63 bits and a sign), -0.0 being 0; it counts only where the test below passes
abbrev pub whole_number : Float → ℤ
whole_number x = to_signed 63 x

-- the float is a whole number of magnitude at most the limit: it equals its own whole number. That this test is right is `whole_entry` of proofs/Taken.antt
unfoldable pub is_whole : (limit : ℕ) → Float → Bool
is_whole limit x = nat_le (unsigned_abs (whole_number x)) limit && eq (of_int binary64 (whole_number x)) x

-- ---- the test of a matrix

-- the test passes at each number below n
abbrev pub all_below : ℕ → (ℕ → Bool) → Bool
all_below zero test = true
all_below (suc n) test = test 0 && all_below n (λ i. test (suc i))

-- the test passes at each column and row below n
abbrev pub all_places : ℕ → (ℕ → ℕ → Bool) → Bool
all_places n test = all_below n (λ c. all_below n (λ r. test c r))

-- the float at a column and a row
abbrev pub Floats : Type 0
Floats = ℕ → ℕ → Float

-- each entry below the order n is a whole number of magnitude at most the limit
unfoldable pub whole_entries : (limit n : ℕ) → Floats → Bool
whole_entries limit n e = all_places n (λ c r. is_whole limit (e c r))

-- the same in plain words: the exact value of each is a whole number of magnitude at most the limit. That the two agree is `whole_entries_lem` of proofs/Taken.antt
abbrev pub AllWhole : (limit n : ℕ) → Floats → Type 0
AllWhole limit n e = (c r : ℕ) → c < n → r < n → Whole limit (e c r)

-- the whole numbers of the entries
abbrev pub numbers : Floats → Matrix
numbers e = λ c r. whole_number (e c r)

-- m[c][r] of each record
abbrev pub floats2 : Matrix2 → Floats
floats2 m = at (array2 m)

abbrev pub floats3 : Matrix3 → Floats
floats3 m = at (array3 m)

abbrev pub floats4 : Matrix4 → Floats
floats4 m = at (array4 m)

-- ---- a test's answer

-- the value, where the test passes, and refusal 6 where it doesn't
abbrev pub Tested : {A : Type 0} → Bool → A → Result A Refusal → Type 0
Tested test a answer = MatchResult answer (λ b. (test ≡ true) × (b ≡ a)) (λ cause. (test ≡ false) × (cause ≡ NotWhole))

-- ---- one matrix in another

-- the same below the order n
abbrev pub Alike : {A : Type 0} → ℕ → (ℕ → ℕ → A) → (ℕ → ℕ → A) → Type 0
Alike n e d = (c r : ℕ) → c < n → r < n → e c r ≡ d c r

-- e, at order 4, has d at the order n in its top left corner, and what stands besides is taken: the test finds of e what it finds of d
abbrev pub Corner : ℕ → Floats → Floats → Type 0
Corner n d e = (whole_entries 1024 4 e ≡ whole_entries 1024 n d) × Alike n e d

-- ---- without a column and a row

-- a list of four without element n; the last stands again in the room that is left
abbrev pub without : {A : Type 0} → A → ℕ → List A → List A
without past n list = slice_index_or list (skip n 0) past ∷ slice_index_or list (skip n 1) past ∷ slice_index_or list (skip n 2) past ∷ slice_index_or list 3 past ∷ []

-- a matrix without column c and row r
abbrev pub minor : ℕ → ℕ → Matrix → Matrix
minor c r m = λ d s. m (skip c d) (skip r s)

-- ---- whole numbers in an array of columns

-- the matrix that the array holds
abbrev pub wholes : List (List ℤ) → Matrix
wholes a = λ c r. slice_index_or (slice_index_or a c []) r (pos 0)

-- each entry below the order n is of magnitude at most 1024
abbrev pub Small : ℕ → Matrix → Type 0
Small n m = (c r : ℕ) → c < n → r < n → unsigned_abs (m c r) ≤ 1024
