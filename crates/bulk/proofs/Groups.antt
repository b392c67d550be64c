-- A flat list by groups of n numbers, for any n: how numbers are read and written there, the loop that makes each group over,
-- and what then stands at each group. Assumes nothing.
use mathlib.Core.Path.{◌≡◌, sym, ap, ◌∙◌}
use mathlib.Core.List.{List, [], ◌++◌, append_assoc, append-nil, flat_map}
use Prim.Native.Nat.{ℕ, zero, suc, ◌+◌, ◌*◌, ◌/◌, ◌%◌, ◌<◌, ◌≤◌}
use native.Mathlib.Nat.{add-zero, add-div_left, div-add-mod', zero-div, suc-mul, zero-mul, add_comm}
use native.Mathlib.Numerals.{add-one}
use native.Mathlib.Omega.{arith}
use lib.Ieee.{Float, nan}
use lib.Dec.{lit<}
use lib.ListN.{length, take, drop, length-append, length-drop, drop_of_length-le}
use lib.Seq.{get_or-take, get_or-drop, drop-drop, take_all, take_at, drop-append-add, length-take-le, sets, sets-eq}
use Rattle.vector.specs.Vectors.{vector2, vector3, vector4, entry, of_entries2, of_entries3, of_entries4}
use Rattle.vector.specs.declared.Vector2.{Vector2}
use Rattle.vector.specs.declared.Vector3.{Vector3}
use Rattle.vector.specs.declared.Vector4.{Vector4}
use Rattle.matrix.specs.Records.{matrix3, matrix4}
use Rattle.bulk.specs.Moves.{flat3, flat4}
use Rattle.bulk.specs.Groups.{part, group, groups, each}

-- entry j of the n numbers from place i on
at_part : (n i j : ℕ) (l : List Float) → j < n → entry (part n i l) j ≡ entry l (i + j)
at_part n i j l below = get_or-take n (drop i l) j nan below ∙ get_or-drop i l j nan

-- so a vector of the numbers read one by one is the vector of the part
pub read2 : (l : List Float) (i : ℕ) (v : Vector2) → v ≡ vector2 (entry l i) (entry l (i + 1)) → v ≡ of_entries2 (part 2 i l)
read2 l i v e = rw (e, at_part 2 i 0 l (lit< tt), add-zero, at_part 2 i 1 l (lit< tt))

pub read3 : (l : List Float) (i : ℕ) (v : Vector3) → v ≡ vector3 (entry l i) (entry l (i + 1)) (entry l (i + 2)) → v ≡ of_entries3 (part 3 i l)
read3 l i v e = rw (e, at_part 3 i 0 l (lit< tt), add-zero, at_part 3 i 1 l (lit< tt), at_part 3 i 2 l (lit< tt))

pub read4 : (l : List Float) (i : ℕ) (v : Vector4) → v ≡ vector4 (entry l i) (entry l (i + 1)) (entry l (i + 2)) (entry l (i + 3)) → v ≡ of_entries4 (part 4 i l)
read4 l i v e = rw (e, at_part 4 i 0 l (lit< tt), add-zero, at_part 4 i 1 l (lit< tt), at_part 4 i 2 l (lit< tt), at_part 4 i 3 l (lit< tt))

-- the parts from the columns' places on are the columns of the flat list
pub columns3 : (l : List Float) → matrix3 (of_entries3 (part 3 0 l)) (of_entries3 (part 3 3 l)) (of_entries3 (part 3 6 l)) ≡ flat3 l
unfolding flat3
columns3 l = rw (drop-drop 3 3 l)

pub columns4 : (l : List Float) → matrix4 (of_entries4 (part 4 0 l)) (of_entries4 (part 4 4 l)) (of_entries4 (part 4 8 l)) (of_entries4 (part 4 12 l)) ≡ flat4 l
unfolding flat4
columns4 l = rw (drop-drop 4 4 l, drop-drop 4 8 l)

-- ---- the loop

module _ (n : ℕ) (some : 0 < n) (f : List Float → List Float) where
  -- what is left from place i on is the next group and what is left after it
  next : (l : List Float) (i : ℕ) → i + n ≤ length l → each n f (drop i l) ≡ f (part n i l) ++ each n f (drop (i + n) l)
  unfolding each flat_map
  next l i within =
      let rest : length (drop i l) ≡ n + length (drop (i + n) l) = simp length-drop (omega arith) in
      let count : length (drop i l) / n ≡ suc (length (drop (i + n) l) / n) = ap (λ (k : ℕ). k / n) rest ∙ add-div_left (length (drop (i + n) l)) some ∙ add-one _ in
      rw count (rw (drop-drop n i l))

  -- nothing is left at the end
  pub none : each n f [] ≡ []
  unfolding each flat_map
  none = rw (zero-div n)

  -- n numbers written from place i on
  wrote : (l g : List Float) (i : ℕ) → length g ≡ n → i + n ≤ length l → take (i + n) (sets l i g) ≡ take i l ++ g
  wrote l g i long within =
      rw (sets-eq g l i (omega arith)) (take_at (take i l ++ g) _ (i + n) (length-append (take i l) g ∙ rw (length-take-le i l (omega arith), long)))

  -- where the loop stands at place i: what is written before it, and what is left made over, is the whole
  abbrev pub SoFar : (input output : List Float) (i : ℕ) → Type 0
  SoFar input output i = take i output ++ each n f (drop i input) ≡ each n f input

  -- a turn writes g, which is what f makes of the group from place i on
  pub turn : (input output : List Float) (i : ℕ) (g output' : List Float) → SoFar input output i → length output ≡ length input → i + n ≤ length input
      → g ≡ f (part n i input) → length g ≡ n → output' ≡ sets output i g → SoFar input output' (i + n)
  turn input output i g output' so-far same within made long stored =
      rw (stored, wrote output g i long (omega (arith, same)), made, append_assoc, ← next input i within) so-far

  -- at the end the output is every group made over
  pub ended : (input output : List Float) (i : ℕ) → SoFar input output i → length output ≡ length input → length input ≤ i → output ≡ each n f input
  ended input output i so-far same past =
      sym (append-nil output) ∙ rw (take_all i output (omega (arith, same)), drop_of_length-le input {i = i} past, none) at so-far

-- fewer groups of n have a whole group more in the larger number of them
one_more : (n a b : ℕ) → a * n < b * n → a * n + n ≤ b * n
one_more n a zero h = absurd (omega (arith, h, zero-mul n))
one_more n zero (suc b) h = omega (arith, zero-mul n, suc-mul b n)
one_more n (suc a) (suc b) h = omega (arith, suc-mul a n, suc-mul b n, one_more n a b (omega (arith, h, suc-mul a n, suc-mul b n)))

-- a place a whole number of groups in, before the end of them, has a group after it
pub room : (n i l : ℕ) → i % n ≡ 0 → l % n ≡ 0 → i < l → i + n ≤ l
room n i l at-group whole before =
    omega (arith, div-add-mod' i n, at-group, div-add-mod' l n, whole, one_more n (i / n) (l / n) (omega (arith, div-add-mod' i n, at-group, div-add-mod' l n, whole, before)))

-- ---- group by group

module _ (n : ℕ) (f : List Float → List Float) (keeps : (g : List Float) → length (f g) ≡ n) where
  -- group j of the first k groups made over is group j made over
  of_groups : (k j : ℕ) (l : List Float) → j < k → group n j (flat_map f (groups k n l)) ≡ f (group n j l)
  unfolding flat_map
  of_groups zero j l below = absurd (omega arith)
  of_groups (suc k) zero l below = rw (zero-mul n) (take_at (f (take n l)) _ n (keeps (take n l)))
  of_groups (suc k) (suc j) l below =
      let step : suc j * n ≡ n + j * n = suc-mul j n ∙ add_comm (j * n) n in
      let past : drop (n + j * n) (f (take n l) ++ flat_map f (groups k n (drop n l))) ≡ drop (j * n) (flat_map f (groups k n (drop n l))) =
      rw (sym (ap (λ m. m + j * n) (keeps (take n l)))) (drop-append-add (f (take n l)) _ (j * n)) in
      rw (step, past, of_groups k j (drop n l) (omega arith), drop-drop)

  -- group j of a list whose groups are each made over is group j made over
  pub of_each : (l : List Float) (j : ℕ) → j < length l / n → group n j (each n f l) ≡ f (group n j l)
  unfolding each
  of_each l j below = of_groups (length l / n) j l below

  long_groups : (k : ℕ) (l : List Float) → length (flat_map f (groups k n l)) ≡ k * n
  unfolding flat_map
  long_groups zero l = sym (zero-mul n)
  long_groups (suc k) l = length-append (f (take n l)) _ ∙ rw (keeps (take n l), long_groups k (drop n l), suc-mul k n) (add_comm n (k * n))

  -- and it is as long, where it is whole groups
  pub long_each : (l : List Float) → length l % n ≡ 0 → length (each n f l) ≡ length l
  unfolding each
  long_each l whole = long_groups (length l / n) l ∙ omega (arith, div-add-mod' (length l) n, whole)
