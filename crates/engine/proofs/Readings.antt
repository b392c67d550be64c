-- Formulas of the port read both ways: over the entries of a matrix, and as a row times a column. Where a computed test passes, the float reading is exact.
-- Over the format, the order and the limits. Assumes nothing.
use Rattle.std.proofs.Common.{◌≡◌, ℕ, ◌+◌, ◌-◌, ◌*◌, ◌/◌, ◌%◌, ◌<◌, ◌≤◌, Bool, true, false, cond, not, ◌&&◌, T, eqb, ltb, ℤ, ◌*ℤ◌, refl, ◌∙◌, subst, ap₂, mod-lt, div-lt_iff_lt-mul, arith, eqb→eq, ltb→lt, nltb→le, le-ltb, lt-ltb}
use lib.Ieee.{Float, Format, low}
use lib.Ieee.Fits.{and_l, and_r}
use Rattle.whole.specs.Sum.{sum}
use Rattle.whole.specs.Matrix.{Matrix}
use Rattle.whole.specs.Order.{exact_signed_sum}
use Rattle.whole.proofs.Formula.{Formula, var, ◌⊗◌, in_whole, alike, same, bound}
use Rattle.whole.proofs.Sum.{sum_ext}
use Rattle.whole.proofs.Written.{sum_formula, sum_formula_is, signed_formula, entry, entries, written_entries}
use Rattle.exact.proofs.Known.{Known}
use Rattle.exact.proofs.Reading.{in_float, places, weight, stays_exact, exact_formula, whole_formula}
use Rattle.exact.proofs.Steps.{EachStep, steps_within, exact_steps, whole_steps}
use Rattle.engine.specs.Whole.{Floats}

-- ---- over the entries of a matrix

-- the variables' floats in a matrix of the order n, column after column
abbrev pub column_wise : ℕ → Floats → ℕ → Float
column_wise n e v = e (v / n) (v % n)

-- the entries below the order n have the exact values of M, within B
abbrev pub Holds : ℕ → ℕ → Floats → Matrix → Type 0
Holds n B e M = (c r : ℕ) → c < n → r < n → Known (e c r) (M c r) 0 B

-- the test of a formula over the entries
abbrev pub entry_test : Format → ℕ → ℕ → Formula → Bool
entry_test f n B d = stays_exact f (n * n) 0 (λ i. 0) (λ i. B) d

-- a matrix of the order n, known within B
module _ (f : Format) (n B : ℕ) (some : 0 < n) (e : Floats) (M : Matrix) (holds : Holds n B e M) where
  -- each variable is known
  variables : (v : ℕ) → v < n * n → Known (column_wise n e v) (entries n M v) 0 B
  variables v h = holds (v / n) (v % n) ((div-lt_iff_lt-mul some).1 h) (mod-lt v some)

  -- a formula over the entries is exact where its test passes
  pub over_entries : (d : Formula) → T (entry_test f n B d) → Known (in_float f (column_wise n e) d) (in_whole (entries n M) d) 0 (bound (λ i. B) d)
  over_entries d test = whole_formula f (n * n) (λ i. B) (column_wise n e) (entries n M) variables d test

  -- and so is each of its steps, within a limit that a test computes
  pub entry_steps : (limit : ℕ) (d : Formula) → T (entry_test f n B d) → T (steps_within (λ i. B) limit d) → EachStep (λ part. Known (in_float f (column_wise n e) part) (in_whole (entries n M) part) 0 limit) d
  entry_steps = whole_steps f (n * n) (λ i. B) (column_wise n e) (entries n M) variables

  -- one that multiplies out as the signed sum does is the signed sum
  pub over_sum : (d : Formula) → T (alike d (signed_formula n (entry n))) → T (entry_test f n B d) → Known (in_float f (column_wise n e) d) (exact_signed_sum n M) 0 (bound (λ i. B) d)
  over_sum d like test =
      subst (λ (z : ℤ). Known (in_float f (column_wise n e) d) z 0 (bound (λ i. B) d)) (written_entries n d like M) (over_entries d test)

-- ---- a row times a column

-- the variables of a row and then of a column
abbrev pub beside : {A : Type 0} → ℕ → (ℕ → A) → (ℕ → A) → ℕ → A
beside n row column i = cond (ltb i n) (row i) (column (i - n))

-- the sum over i of row i times column i
abbrev pub dot_formula : ℕ → Formula
dot_formula n = sum_formula n (λ i. var i ⊗ var (n + i))

-- the test of a formula for a row times a column, the row's numbers within a and w times over 2 ^ k, the column's within b and v times over 2 ^ k: it multiplies out as the sum, every step is exact, and the whole is n * (a * b) at most
abbrev pub dot_test : Format → ℕ → Formula → ℕ → ℕ → ℕ → ℕ → Bool
dot_test f n d w v a b =
    alike d (dot_formula n)
    && (stays_exact f (n + n) (low f) (beside n (λ i. w) (λ i. v)) (beside n (λ i. a) (λ i. b)) d
    && (eqb (weight (beside n (λ i. w) (λ i. v)) d) (w + v) && eqb (bound (beside n (λ i. a) (λ i. b)) d) (n * (a * b))))

-- a formula that passes, and a row and a column that are known
module _ (f : Format) (n : ℕ) (d : Formula) (w v a b : ℕ) (test : T (dot_test f n d w v a b)) (k : ℕ) (fine : k ≤ low f)
    (row column : ℕ → Float) (R C : ℕ → ℤ) (row-known : (i : ℕ) → i < n → Known (row i) (R i) (places w k) a) (column-known : (i : ℕ) → i < n → Known (column i) (C i) (places v k) b) where
  -- the row's variables
  at_row : {A : Type 0} (x y : ℕ → A) (i : ℕ) → i < n → beside n x y i ≡ x i
  at_row x y i h = rw (lt-ltb i n h)

  -- the column's variables
  at_column : {A : Type 0} (x y : ℕ → A) (i : ℕ) → beside n x y (n + i) ≡ y i
  at_column x y i = let back : n + i - n ≡ i = omega arith in rw (le-ltb (n + i) n (omega arith), back)

  -- what is known of one variable
  abbrev Variable : ℕ → Type 0
  Variable i = Known (beside n row column i) (beside n R C i) (places (beside n (λ i. w) (λ i. v) i) k) (beside n (λ i. a) (λ i. b) i)

  -- the test's parts: it multiplies out as the sum
  alike_part : T (alike d (dot_formula n))
  alike_part = and_l (alike d (dot_formula n)) _ test

  -- every step is exact
  abbrev Rest : Bool
  Rest = stays_exact f (n + n) (low f) (beside n (λ i. w) (λ i. v)) (beside n (λ i. a) (λ i. b)) d

  -- the weight and the bound are these
  abbrev Sizes : Bool
  Sizes = eqb (weight (beside n (λ i. w) (λ i. v)) d) (w + v) && eqb (bound (beside n (λ i. a) (λ i. b)) d) (n * (a * b))

  -- what is left of the test
  rest_part : T (Rest && Sizes)
  rest_part = and_r (alike d (dot_formula n)) (Rest && Sizes) test

  -- the weight
  weight_part : weight (beside n (λ i. w) (λ i. v)) d ≡ w + v
  weight_part = eqb→eq _ _ (and_l (eqb (weight (beside n (λ i. w) (λ i. v)) d) (w + v)) (eqb (bound (beside n (λ i. a) (λ i. b)) d) (n * (a * b))) (and_r Rest Sizes rest_part))

  -- the bound
  bound_part : bound (beside n (λ i. a) (λ i. b)) d ≡ n * (a * b)
  bound_part = eqb→eq _ _ (and_r (eqb (weight (beside n (λ i. w) (λ i. v)) d) (w + v)) (eqb (bound (beside n (λ i. a) (λ i. b)) d) (n * (a * b))) (and_r Rest Sizes rest_part))

  -- the whole reading is the sum
  whole_part : in_whole (beside n R C) d ≡ sum n (λ i. R i *ℤ C i)
  whole_part =
      same d (dot_formula n) alike_part (beside n R C)
      ∙ sum_formula_is n (λ i. var i ⊗ var (n + i)) (λ i. beside n R C i *ℤ beside n R C (n + i)) (beside n R C) (λ i. refl)
      ∙ sum_ext n (λ i h. ap₂ (λ (x y : ℤ). x *ℤ y) (at_row R C i h) (at_column R C i))

  -- each variable is known
  each : (i : ℕ) → i < n + n → Variable i
  each i h = by_test (ltb i n) (ltb→lt i n) (nltb→le i n)
    where
      by_test : (t : Bool) → (T t → i < n) → (T (not t) → n ≤ i) → Known (cond t (row i) (column (i - n))) (cond t (R i) (C (i - n))) (places (cond t w v) k) (cond t a b)
      by_test true less more = row-known i (less tt)
      by_test false less more = let l : n ≤ i = more tt in column-known (i - n) (omega arith)

  -- the row times the column is exact
  pub dot_known : Known (in_float f (beside n row column) d) (sum n (λ i. R i *ℤ C i)) (places (w + v) k) (n * (a * b))
  dot_known =
      subst (λ (z : ℤ). Known (in_float f (beside n row column) d) z (places (w + v) k) (n * (a * b))) whole_part
      (subst (λ (t : ℕ). Known (in_float f (beside n row column) d) (in_whole (beside n R C) d) (places t k) (n * (a * b))) weight_part
      (subst (λ (t : ℕ). Known (in_float f (beside n row column) d) (in_whole (beside n R C) d) (places (weight (beside n (λ i. w) (λ i. v)) d) k) t) bound_part
      (exact_formula f (n + n) (low f) (beside n (λ i. w) (λ i. v)) (beside n (λ i. a) (λ i. b)) k fine (beside n row column) (beside n R C) each d (and_l Rest Sizes rest_part))))

  -- and so is each of its steps, within a limit that a test computes
  pub dot_steps : (limit : ℕ) → T (steps_within (beside n (λ i. a) (λ i. b)) limit d)
      → EachStep (λ part. Known (in_float f (beside n row column) part) (in_whole (beside n R C) part) (places (weight (beside n (λ i. w) (λ i. v)) part) k) limit) d
  dot_steps limit =
      exact_steps f (n + n) (low f) (beside n (λ i. w) (λ i. v)) (beside n (λ i. a) (λ i. b)) k fine (beside n row column) (beside n R C) each limit d (and_l Rest Sizes rest_part)
