-- Demand 3 for any port whose definitions are formulas that pass their tests: the numbers 1024, 32768 and 64 are handed in, and so is the order.
-- Assumes nothing.
use Rattle.std.proofs.Common.{◌≡◌, ℕ, ◌*◌, ◌^◌, ◌<◌, ◌≤◌, Bool, true, false, cond, T, ◌↔◌, ℤ, pos, nat_abs, sym, refl, ap, ◌∙◌, subst, le_trans, le_of_eq, lt_of_lt_of_le, lt_of_le_of_lt, lt_irrefl, arith, lit≤, pow_pos}
use lib.Ieee.{Float, binary64, low, eq}
use Rattle.vector.specs.Arithmetic.{float0}
use Rattle.vector.specs.Refusals.{Outcome, given, refused, Meant, bare, refused_for, after}
use Rattle.vector.specs.declared.refusal.Refusal.TheVariants.{NotWhole}
use Rattle.matrix.specs.Inverse.{nonzero}
use Rattle.matrix.proofs.Singular as singular
use Rattle.whole.specs.Matrix.{Matrix, δ}
use Rattle.whole.specs.Order.{exact_signed_sum}
use Rattle.whole.proofs.Formula.{Formula, in_whole, alike, bound}
use Rattle.whole.proofs.Inverse.{numerators, moved}
use Rattle.whole.proofs.Written.{signed_formula, entry, entries}
use Rattle.whole.proofs.Singular as whole-singular
use Rattle.exact.specs.Value.{Exact, Whole, Equal}
use Rattle.exact.proofs.Signed.{sign_of}
use Rattle.exact.proofs.Bounds.{power_low}
use Rattle.exact.proofs.Compare.{exact_equal_zero, same_value}
use Rattle.exact.proofs.Literals.{exact_zero}
use Rattle.exact.proofs.Integers.{exact_integer, exact_truncation}
use Rattle.exact.proofs.Known.{Known, known_whole}
use Rattle.exact.proofs.Reading.{in_float, places, weight}
use Rattle.exact.proofs.Steps.{EachStep, steps_within}
use Rattle.engine.specs.Whole.{whole_number, whole_entries, numbers}
use Rattle.engine.specs.Engine.{taken, is_one_bit}
use Rattle.engine.specs.Demand.{Port, WholeEntries, sum_of, PowerOfTwo, SameVector, WholeVector, RefusedElsewhere, DeterminantIsSum, RefusedExactly, Undoes, ExactInverse, InverseUndoes, InverseIsExact, UndoableExactly, HasExactInverse, ZeroExactly, Demand}
use Rattle.engine.proofs.Taken.{whole_entries_lem}
use Rattle.engine.proofs.Outcomes.{taken_yes}
use Rattle.engine.proofs.Bits.{one_bit}
use Rattle.engine.proofs.Fractions.{adjugate_cofactor, fraction}
use Rattle.engine.proofs.Readings.{Holds, column_wise, beside, entry_test, over_sum, entry_steps, dot_steps}
use Rattle.engine.proofs.Undoing as undoing
use Rattle.engine.proofs.Undoing.{Passes}

-- ---- what is shown of a port

-- its definitions are the formulas d, F and G, read as floats; its inverse has the adjugate over the determinant; and the formulas pass their tests for entries within B, an inverse within D and vectors within E
pub record Written (p : Port) (B D E : ℕ) (d F G : Formula) : Type 0 where
  pub some : 0 < p.order
  pub limit : B < 2 ^ 53
  pub vectors : E < 2 ^ 53
  pub sum_alike : T (alike d (signed_formula p.order (entry p.order)))
  pub sum_exact : T (entry_test binary64 p.order B d)
  pub sum_small : bound (λ i. B) d < 2 ^ 53
  pub passes : Passes binary64 p.order B D E F G
  pub determinant_is : (m : p.Matrix) → p.determinant m ≡ in_float binary64 (column_wise p.order (p.entries m)) d
  pub product_is : (a b : p.Matrix) (c r : ℕ) → c < p.order → r < p.order → p.entries (p.product a b) c r ≡ in_float binary64 (beside p.order (λ i. p.entries a i r) (p.entries b c)) F
  pub vector_is : (a : p.Matrix) (v : p.Vector) (r : ℕ) → r < p.order → p.places (p.times_vector a v) r ≡ in_float binary64 (beside p.order (λ i. p.entries a i r) (p.places v)) G
  pub identity_is : (c r : ℕ) → c < p.order → r < p.order → Exact (p.entries p.identity c r) (δ c r) 0
  pub inverse : p.Matrix → Float → p.Matrix
  pub invert_is : (m : p.Matrix) → p.invert m ≡ after (nonzero (p.determinant m)) (given (inverse m (p.determinant m)))
  pub inverse_known : (m : p.Matrix) (M : Matrix) → Holds p.order B (p.entries m) M → (k : ℕ) → nat_abs (exact_signed_sum p.order M) ≡ 2 ^ k → (det : Float) → Known det (exact_signed_sum p.order M) 0 (bound (λ i. B) d)
      → (c r : ℕ) → c < p.order → r < p.order → Known (p.entries (inverse m det) c r) (numerators p.order (sign_of (exact_signed_sum p.order M)) M c r) k D

-- ---- refusals

-- an outcome that is refused with 2 exactly where a test passes
refusal : {A : Type 0} (b : Bool) (o : Outcome A) (i : A) (S : Type 0) → o ≡ after (cond b (refused (bare 2)) (given tt)) (given i) → T b ↔ S → (why : Meant) → (o ≡ refused why) ↔ ((why ≡ bare 2) × S)
refusal true o i S e zero why = (λ r. let is : refused (bare 2) ≡ refused why = sym e ∙ r in ((cc), zero.0 tt), λ q. e ∙ ap refused (sym q.0))
refusal false o i S e zero n = (λ r. let none : ◌≡◌ {A = ℕ} 0 1 = cc in absurd (omega arith), λ q. absurd (zero.1 q.1))

-- a test that does not pass
fails : (b : Bool) → (T b → ⊥) → b ≡ false
fails true h = absurd (h tt)
fails false h = refl

-- a whole number is known by its whole number
numbered : (b : ℕ) (x : Float) → b < 2 ^ 53 → Whole b x → Known x (whole_number x) 0 b
numbered b x small v =
    subst (λ (z : ℤ). Known x z 0 b) (sym (exact_truncation 63 v.exact (lt_of_le_of_lt v.within (lt_of_lt_of_le small (lit≤ tt))))) (known_whole v)

-- a test that passes
pub passes_true : (b : Bool) → T b → b ≡ true
passes_true true t = refl
passes_true false t = absurd t

-- ---- the demand
module _ (p : Port) (B D E : ℕ) (d F G : Formula) (w : Written p B D E d F G) where
  -- the order
  abbrev n : ℕ
  n = p.order

  -- whole entries are known by their whole numbers
  held : (m : p.Matrix) → WholeEntries p B m → Holds n B (p.entries m) (numbers (p.entries m))
  held m whole c r h l = numbered B (p.entries m c r) w.limit ((whole_entries_lem B n (p.entries m) w.limit).0 whole c r h l)

  -- the determinant is the signed sum
  pub known_sum : (m : p.Matrix) → WholeEntries p B m → Known (p.determinant m) (sum_of p m) 0 (bound (λ i. B) d)
  known_sum m whole =
      subst (λ (x : Float). Known x (sum_of p m) 0 (bound (λ i. B) d)) (sym (w.determinant_is m))
      (over_sum binary64 n B w.some (p.entries m) (numbers (p.entries m)) (held m whole) d w.sum_alike w.sum_exact)

  -- and each step of it is a whole number within a limit that a test computes
  pub sum_steps : (limit : ℕ) → T (steps_within (λ i. B) limit d) → (m : p.Matrix) → WholeEntries p B m
      → EachStep (λ part. Known (in_float binary64 (column_wise n (p.entries m)) part) (in_whole (entries n (numbers (p.entries m))) part) 0 limit) d
  sum_steps limit test m whole = entry_steps binary64 n B w.some (p.entries m) (numbers (p.entries m)) (held m whole) limit d w.sum_exact test

  -- it compares equal to zero exactly if the sum is zero
  zero_sum : (m : p.Matrix) → WholeEntries p B m → Equal (p.determinant m) float0 ↔ (sum_of p m ≡ pos 0)
  zero_sum m whole = exact_equal_zero (known_sum m whole).exact (exact_zero binary64)

  -- 1
  determinant_is_sum : DeterminantIsSum p B
  determinant_is_sum m whole = (known_sum m whole).exact

  -- 2
  refused_exactly : RefusedExactly p B
  unfolding nonzero
  refused_exactly m whole = refusal (eq (p.determinant m) float0) (p.invert m) (w.inverse m (p.determinant m)) (sum_of p m ≡ pos 0) (w.invert_is m) (zero_sum m whole)

  -- a power of two is not zero
  not_zero : (z : ℤ) → PowerOfTwo z → z ≡ pos 0 → ⊥
  not_zero z q e = lt_irrefl 0 (subst (λ (k : ℕ). 0 < k) (sym q.1 ∙ ap nat_abs e) (pow_pos q.0))

  -- an inverse is given
  inverted : (m : p.Matrix) → WholeEntries p B m → PowerOfTwo (sum_of p m) → p.invert m ≡ given (w.inverse m (p.determinant m))
  inverted m whole q =
      w.invert_is m ∙ ap (λ (o : Outcome Unit). after o (given (w.inverse m (p.determinant m)))) (singular.regular (p.determinant m) (fails (eq (p.determinant m) float0) (λ t. not_zero (sum_of p m) q ((zero_sum m whole).0 t))))

  -- a matrix whose sum is plus or minus 2 ^ k
  module _ (m : p.Matrix) (whole : WholeEntries p B m) (q : PowerOfTwo (sum_of p m)) where
    -- the inverse that is given
    abbrev x : p.Matrix
    x = w.inverse m (p.determinant m)

    -- the matrix's whole numbers
    abbrev M : Matrix
    M = numbers (p.entries m)

    -- the inverse's numerators over that power of two
    abbrev X : Matrix
    X = numerators n (sign_of (exact_signed_sum n M)) M

    -- the power of two is none too large
    fine : q.0 ≤ low binary64
    fine = power_low binary64 q.0 (lt_of_le_of_lt (le_trans (le_of_eq (sym q.1)) (known_sum m whole).within) w.sum_small)

    -- the inverse's entries are the adjugate over the sum
    x_known : (c r : ℕ) → c < n → r < n → Known (p.entries x c r) (X c r) q.0 D
    x_known = w.inverse_known m M (held m whole) q.0 q.1 (p.determinant m) (known_sum m whole)

    -- so they are the cofactors over the sum
    x_exact : ExactInverse p M x
    x_exact c r h l = fraction q.1 (x_known c r h l).exact (adjugate_cofactor n w.some M c r)

    -- a whole vector
    module _ (v : p.Vector) (whole-vector : WholeVector p E v) where
      -- its whole numbers
      abbrev Q : ℕ → ℤ
      Q i = whole_number (p.places v i)

      -- its entries are known by them
      v_known : (i : ℕ) → i < n → Known (p.places v i) (Q i) 0 E
      v_known i h = numbered E (p.places v i) w.vectors (whole-vector i h)

      -- there
      there_known : (i : ℕ) → i < n → Known (p.places (p.times_vector m v) i) (moved n M Q i) 0 (n * (B * E))
      there_known i h =
          subst (λ (y : Float). Known y (moved n M Q i) 0 (n * (B * E))) (sym (w.vector_is m v i h))
          (undoing.there_known binary64 n B D E F G w.passes M q.0 fine q.1 (p.entries m) (p.entries x) (held m whole) x_known (p.places v) Q v_known i h)

      -- and back
      and_back : SameVector p (p.times_vector x (p.times_vector m v)) v
      and_back r h =
          same_value
          (subst (λ (y : Float). Exact y (Q r) 0) (sym (w.vector_is x (p.times_vector m v) r h))
          (undoing.and_back binary64 n B D E F G w.passes M q.0 fine q.1 (p.entries m) (p.entries x) (held m whole) x_known (p.places v) Q v_known (p.places (p.times_vector m v)) there_known r h))
          (v_known r h).exact

      -- back
      back_known : (i : ℕ) → i < n → Known (p.places (p.times_vector x v) i) (moved n X Q i) q.0 (n * (D * E))
      back_known i h =
          subst (λ (y : Float). Known y (moved n X Q i) q.0 (n * (D * E))) (sym (w.vector_is x v i h))
          (undoing.back_known binary64 n B D E F G w.passes M q.0 fine q.1 (p.entries m) (p.entries x) (held m whole) x_known (p.places v) Q v_known i h)

      -- and there
      and_there : SameVector p (p.times_vector m (p.times_vector x v)) v
      and_there r h =
          same_value
          (subst (λ (y : Float). Exact y (Q r) 0) (sym (w.vector_is m (p.times_vector x v) r h))
          (undoing.and_there binary64 n B D E F G w.passes M q.0 fine q.1 (p.entries m) (p.entries x) (held m whole) x_known (p.places v) Q v_known (p.places (p.times_vector x v)) back_known r h))
          (v_known r h).exact

      -- each step of a move, times the power of two that it is over, is a whole number within a limit that a test computes: there,
      pub there_steps : (limit : ℕ) → T (steps_within (beside n (λ i. B) (λ i. E)) limit G) → (r : ℕ) → r < n
          → EachStep (λ part. Known (in_float binary64 (beside n (λ j. p.entries m j r) (p.places v)) part) (in_whole (beside n (λ j. M j r) Q) part) (places (weight (beside n (λ i. 0) (λ i. 0)) part) q.0) limit) G
      there_steps limit test r h =
          dot_steps binary64 n G 0 0 B E w.passes.there q.0 fine (λ j. p.entries m j r) (p.places v) (λ j. M j r) Q (λ j b. held m whole j r b h) v_known limit test

      -- and back;
      pub and_back_steps : (limit : ℕ) → T (steps_within (beside n (λ i. D) (λ i. n * (B * E))) limit G) → (r : ℕ) → r < n
          → EachStep (λ part. Known (in_float binary64 (beside n (λ j. p.entries x j r) (p.places (p.times_vector m v))) part) (in_whole (beside n (λ j. X j r) (moved n M Q)) part) (places (weight (beside n (λ i. 1) (λ i. 0)) part) q.0) limit) G
      and_back_steps limit test r h =
          dot_steps binary64 n G 1 0 D (n * (B * E)) w.passes.and_back q.0 fine (λ j. p.entries x j r) (p.places (p.times_vector m v)) (λ j. X j r) (moved n M Q) (λ j b. x_known j r b h) there_known limit test

      -- back,
      pub back_steps : (limit : ℕ) → T (steps_within (beside n (λ i. D) (λ i. E)) limit G) → (r : ℕ) → r < n
          → EachStep (λ part. Known (in_float binary64 (beside n (λ j. p.entries x j r) (p.places v)) part) (in_whole (beside n (λ j. X j r) Q) part) (places (weight (beside n (λ i. 1) (λ i. 0)) part) q.0) limit) G
      back_steps limit test r h =
          dot_steps binary64 n G 1 0 D E w.passes.back q.0 fine (λ j. p.entries x j r) (p.places v) (λ j. X j r) Q (λ j b. x_known j r b h) v_known limit test

      -- and there
      pub and_there_steps : (limit : ℕ) → T (steps_within (beside n (λ i. B) (λ i. n * (D * E))) limit G) → (r : ℕ) → r < n
          → EachStep (λ part. Known (in_float binary64 (beside n (λ j. p.entries m j r) (p.places (p.times_vector x v))) part) (in_whole (beside n (λ j. M j r) (moved n X Q)) part) (places (weight (beside n (λ i. 0) (λ i. 1)) part) q.0) limit) G
      and_there_steps limit test r h =
          dot_steps binary64 n G 0 1 B (n * (D * E)) w.passes.and_there q.0 fine (λ j. p.entries m j r) (p.places (p.times_vector x v)) (λ j. M j r) (moved n X Q) (λ j b. held m whole j r b h) back_known limit test

    -- it undoes the matrix
    undoes : Undoes p E m x
    undoes = record {
      matrix_times_inverse = λ c r h l. same_value (subst (λ (y : Float). Exact y (δ c r) 0) (sym (w.product_is m x c r h l)) (undoing.matrix_times_inverse binary64 n B D E F G w.passes M q.0 fine q.1 (p.entries m) (p.entries x) (held m whole) x_known c r h l)) (w.identity_is c r h l);
      inverse_times_matrix = λ c r h l. same_value (subst (λ (y : Float). Exact y (δ c r) 0) (sym (w.product_is x m c r h l)) (undoing.inverse_times_matrix binary64 n B D E F G w.passes M q.0 fine q.1 (p.entries m) (p.entries x) (held m whole) x_known c r h l)) (w.identity_is c r h l);
      there_and_back = and_back;
      back_and_there = and_there;
    }

  -- 3
  inverse_undoes : InverseUndoes p B E
  inverse_undoes m whole q = (x m whole q, inverted m whole q, undoes m whole q)

  -- that inverse is exact
  inverse_is_exact : InverseIsExact p B
  inverse_is_exact m whole q = (x m whole q, inverted m whole q, x_exact m whole q)

  -- both at once
  has_exact_inverse : (m : p.Matrix) → WholeEntries p B m → PowerOfTwo (sum_of p m) → HasExactInverse p E (numbers (p.entries m)) m
  has_exact_inverse m whole q = (x m whole q, inverted m whole q, undoes m whole q, x_exact m whole q)

  -- 5
  zero_exactly : ZeroExactly p B
  zero_exactly m whole = whole-singular.singular n (numbers (p.entries m))

-- ---- the engine

-- the test of the entries, as the check has it
by_check : {A : Type 0} (b : Bool) (v : A) → (after (cond b (given tt) (refused_for NotWhole)) (given v) ≡ refused (bare 6)) ↔ ¬ T b
by_check true v = (λ e. let none : ◌≡◌ {A = ℕ} 0 1 = cc in absurd (omega arith), λ h. absurd (h tt))
by_check false v = (λ e t. t, λ h. refl)

-- the engine refuses with 6 exactly where an entry is not whole
pub refused_elsewhere : (p : Port) (limit : ℕ) → RefusedElsewhere p limit
unfolding taken
refused_elsewhere p limit m =
    let test = whole_entries limit p.order (p.entries m) in
    (by_check test (sum_of p m), by_check test (is_one_bit (nat_abs (sum_of p m))))

-- a yes after the check
by_bit : (b t : Bool) → (after (cond b (given tt) (refused_for NotWhole)) (given t) ≡ given true) ↔ (T b × T t)
by_bit true true = (λ e. (tt, tt), λ q. refl)
by_bit true false = (λ e. let no : false ≡ true = cc in absurd (subst T (sym no) tt), λ q. absurd q.1)
by_bit false t = (λ e. let none : ◌≡◌ {A = ℕ} 0 1 = cc in absurd (omega arith), λ q. absurd q.0)

-- undoable says yes exactly at whole entries whose sum is plus or minus a power of two
pub undoable_exactly : (p : Port) (limit : ℕ) → UndoableExactly p limit
unfolding taken
undoable_exactly p limit m =
    let bit = one_bit (nat_abs (sum_of p m)) in
    let yes = by_bit (whole_entries limit p.order (p.entries m)) (is_one_bit (nat_abs (sum_of p m))) in
    (λ e. ((yes.0 e).0, bit.0 (yes.0 e).1), λ q. yes.1 (q.0, bit.1 q.1))

-- ---- all of it
pub demand : (p : Port) (B D E : ℕ) (d F G : Formula) → Written p B D E d F G → Demand p B E
demand p B D E d F G w = record {
  meaning = λ m. whole_entries_lem B p.order (p.entries m) w.limit;
  own_numbers = λ m whole c r h l. (held p B D E d F G w m whole c r h l).exact;
  refused_elsewhere = refused_elsewhere p B;
  determinant_is_sum = determinant_is_sum p B D E d F G w;
  refused_exactly = refused_exactly p B D E d F G w;
  inverse_undoes = inverse_undoes p B D E d F G w;
  inverse_is_exact = inverse_is_exact p B D E d F G w;
  sum_agrees = λ m whole. let known = known_sum p B D E d F G w m whole in (
    sum_of p m,
    ap (λ (o : Outcome Unit). after o (given (sum_of p m))) (taken_yes B p.order (p.entries m) (passes_true (whole_entries B p.order (p.entries m)) whole)),
    same_value (exact_integer binary64 (sum_of p m) (lt_of_le_of_lt known.within w.sum_small)) known.exact,
  );
  undoable_exactly = undoable_exactly p B;
  where_undoable = λ m says. let is = (undoable_exactly p B m).0 says in has_exact_inverse p B D E d F G w m is.0 is.1;
  zero_exactly = zero_exactly p B D E d F G w;
}
