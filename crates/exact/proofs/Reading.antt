-- A formula read as floats: the port's own computation, one rounding at each step. Where a bound that is computed over the formula stays below 2 ^ prec at every step,
-- the float reading has the whole reading as its exact value. Over the format, the bounds and the powers of two below the line. Assumes nothing.
use mathlib.Core.Path.{◌≡◌, sym, ap, ap₂, ◌∙◌, subst}
use mathlib.Core.Bool.{Bool, ◌&&◌}
use Prim.Native.Nat.{ℕ, zero, suc, ◌+◌, ◌*◌, ◌^◌, ◌≤◌, ◌<◌}
use native.Mathlib.Nat.{le_refl, le_trans, le_of_eq, zero-mul, mul-zero, one-mul, suc-mul, add-mul, mul-le-mul}
use lib.Dec.{T, leb, ltb, eqb, leb→le, ltb→lt, eqb→eq}
use lib.IntN.{ℤ, nat_abs}
use lib.Ieee.{Float, Format, prec, low, neg, add, sub, mul, of_int}
use lib.Ieee.Fits.{and_l, and_r}
use Rattle.whole.proofs.Formula.{Formula, var, con, ◌⊕◌, ◌⊖◌, ◌⊗◌, ⊝, in_whole, bound}
use Rattle.exact.proofs.Known.{Known, known_integer, known_negation, known_sum, known_difference, known_product}

-- the formula computed in the format f, the variable i being ρ i
abbrev pub in_float : Format → (ℕ → Float) → Formula → Float
in_float f ρ (var i) = ρ i
in_float f ρ (con z) = of_int f z
in_float f ρ (d ⊕ e) = add f (in_float f ρ d) (in_float f ρ e)
in_float f ρ (d ⊖ e) = sub f (in_float f ρ d) (in_float f ρ e)
in_float f ρ (d ⊗ e) = mul f (in_float f ρ d) (in_float f ρ e)
in_float f ρ (⊝ e) = neg (in_float f ρ e)

-- w times k, so written that 0 times k is 0 and 1 times k is k by computation
abbrev pub places : ℕ → ℕ → ℕ
places zero k = 0
places (suc zero) k = k
places (suc (suc w)) k = places (suc w) k + k

-- how many times 2 ^ k stands below the line, where it stands w i times below that of the variable i
abbrev pub weight : (ℕ → ℕ) → Formula → ℕ
weight w (var i) = w i
weight w (con z) = 0
weight w (d ⊕ e) = weight w d
weight w (d ⊖ e) = weight w d
weight w (d ⊗ e) = weight w d + weight w e
weight w (⊝ e) = weight w e

-- a number of magnitude at most b, w times over 2 ^ k for a k up to K, is one of the format
abbrev fits_in : Format → ℕ → ℕ → ℕ → Bool
fits_in f K b w = ltb b (2 ^ prec f) && leb (places w K) (low f)

-- the test, for k up to K and variables below n: at every step the bound fits the format, and only numbers over one denominator are added
abbrev pub stays_exact : Format → ℕ → ℕ → (ℕ → ℕ) → (ℕ → ℕ) → Formula → Bool
stays_exact f n K w β (var i) = ltb i n
stays_exact f n K w β (con z) = ltb (nat_abs z) (2 ^ prec f)
stays_exact f n K w β (d ⊕ e) = fits_in f K (bound β (d ⊕ e)) (weight w d) && (eqb (weight w e) (weight w d) && (stays_exact f n K w β d && stays_exact f n K w β e))
stays_exact f n K w β (d ⊖ e) = fits_in f K (bound β (d ⊖ e)) (weight w d) && (eqb (weight w e) (weight w d) && (stays_exact f n K w β d && stays_exact f n K w β e))
stays_exact f n K w β (d ⊗ e) = fits_in f K (bound β (d ⊗ e)) (weight w d + weight w e) && (stays_exact f n K w β d && stays_exact f n K w β e)
stays_exact f n K w β (⊝ e) = stays_exact f n K w β e

-- ---- w times k
-- it is the product
places_is : (w k : ℕ) → places w k ≡ w * k
places_is zero k = sym (zero-mul k)
places_is (suc zero) k = sym (one-mul k)
places_is (suc (suc w)) k = ap (λ (n : ℕ). n + k) (places_is (suc w) k) ∙ sym (suc-mul (suc w) k)

-- w times k and v times k together
places_add : (v w k : ℕ) → places v k + places w k ≡ places (v + w) k
places_add v w k = ap₂ (λ (m n : ℕ). m + n) (places_is v k) (places_is w k) ∙ sym (add-mul v w k) ∙ sym (places_is (v + w) k)

-- for a larger k it is larger
places_mono : (w : ℕ) {k K : ℕ} → k ≤ K → places w k ≤ places w K
places_mono w {k} {K} h = le_trans (le_of_eq (places_is w k)) (le_trans (mul-le-mul (le_refl w) h) (le_of_eq (sym (places_is w K))))

-- ---- what the test says of the parts
module _ (f : Format) (n K : ℕ) (w β : ℕ → ℕ) (d e : Formula) where
  -- both parts pass it
  abbrev Both : Bool
  Both = stays_exact f n K w β d && stays_exact f n K w β e

  -- which are these two
  two_parts : T Both → T (stays_exact f n K w β d) × T (stays_exact f n K w β e)
  two_parts t = (and_l (stays_exact f n K w β d) (stays_exact f n K w β e) t, and_r (stays_exact f n K w β d) (stays_exact f n K w β e) t)

  -- of a sum, and so of a difference
  pub sum_parts : T (stays_exact f n K w β (d ⊕ e)) → T (stays_exact f n K w β d) × T (stays_exact f n K w β e)
  sum_parts t =
      let F = fits_in f K (bound β d + bound β e) (weight w d) in
      let E = eqb (weight w e) (weight w d) in two_parts (and_r E Both (and_r F (E && Both) t))

  -- of a product
  pub product_parts : T (stays_exact f n K w β (d ⊗ e)) → T (stays_exact f n K w β d) × T (stays_exact f n K w β e)
  product_parts t = two_parts (and_r (fits_in f K (bound β d * bound β e) (weight w d + weight w e)) Both t)

-- ---- the theorem
-- the variables below n are known: the variable i is ζ i over w i times 2 ^ k, of magnitude at most β i
module _ (f : Format) (n K : ℕ) (w β : ℕ → ℕ) (k : ℕ) (few : k ≤ K) (ρ : ℕ → Float) (ζ : ℕ → ℤ)
    (known : (i : ℕ) → i < n → Known (ρ i) (ζ i) (places (w i) k) (β i)) where
  -- the test, with these limits
  abbrev Test : Formula → Bool
  Test = stays_exact f n K w β

  -- what a formula is known to be
  abbrev Reads : Formula → Type 0
  Reads e = Known (in_float f ρ e) (in_whole ζ e) (places (weight w e) k) (bound β e)

  -- a bound that fits is below 2 ^ prec
  small : (b v : ℕ) → T (fits_in f K b v) → b < 2 ^ prec f
  small b v t = ltb→lt b (2 ^ prec f) (and_l (ltb b (2 ^ prec f)) (leb (places v K) (low f)) t)

  -- a denominator that fits is one of the format
  fine : (b v : ℕ) → T (fits_in f K b v) → places v k ≤ low f
  fine b v t = le_trans (places_mono v few) (leb→le (places v K) (low f) (and_r (ltb b (2 ^ prec f)) (leb (places v K) (low f)) t))

  -- the parts of a sum or a difference: over one power of two, and few enough
  abbrev Summands : Formula → Formula → Type 0
  Summands d e = Reads d × Known (in_float f ρ e) (in_whole ζ e) (places (weight w d) k) (bound β e) × (bound β d + bound β e < 2 ^ prec f) × (places (weight w d) k ≤ low f)

  -- what the test says of a sum, and so of a difference
  summands : (d e : Formula) → (T (Test d) → Reads d) → (T (Test e) → Reads e) → T (Test (d ⊕ e)) → Summands d e
  summands d e left right t =
      let b = bound β d + bound β e in
      let F = fits_in f K b (weight w d) in
      let E = eqb (weight w e) (weight w d) in
      let P = Test d && Test e in
      let fit : T F = and_l F (E && P) t in
      let alike : weight w e ≡ weight w d = eqb→eq (weight w e) (weight w d) (and_l E P (and_r F (E && P) t)) in
      let parts : T P = and_r E P (and_r F (E && P) t) in (
        left (and_l (Test d) (Test e) parts),
        subst (λ (v : ℕ). Known (in_float f ρ e) (in_whole ζ e) (places v k) (bound β e)) alike (right (and_r (Test d) (Test e) parts)),
        small b (weight w d) fit,
        fine b (weight w d) fit,
      )

  -- what the test says of a product
  factors : (d e : Formula) → (T (Test d) → Reads d) → (T (Test e) → Reads e) → T (Test (d ⊗ e)) → Reads (d ⊗ e)
  factors d e left right t =
      let b = bound β d * bound β e in
      let v = weight w d + weight w e in
      let F = fits_in f K b v in
      let P = Test d && Test e in
      let fit : T F = and_l F P t in
      let parts : T P = and_r F P t in
      let together = places_add (weight w d) (weight w e) k in
      subst (λ (j : ℕ). Known (in_float f ρ (d ⊗ e)) (in_whole ζ (d ⊗ e)) j b) together
      (known_product f (left (and_l (Test d) (Test e) parts)) (right (and_r (Test d) (Test e) parts)) (small b v fit) (le_trans (le_of_eq together) (fine b v fit)))

  -- where the test passes, the float reading of a formula has the whole reading as its exact value, within the bound; where no weight passes 1, K can be low f
  pub exact_formula : (e : Formula) → T (stays_exact f n K w β e) → Known (in_float f ρ e) (in_whole ζ e) (places (weight w e) k) (bound β e)
  exact_formula (var i) t = known i (ltb→lt i n t)
  exact_formula (con z) t = known_integer f z (ltb→lt (nat_abs z) (2 ^ prec f) t)
  exact_formula (d ⊕ e) t = let p = summands d e (exact_formula d) (exact_formula e) t in known_sum f p.0 p.1 p.2 p.3
  exact_formula (d ⊖ e) t = let p = summands d e (exact_formula d) (exact_formula e) t in known_difference f p.0 p.1 p.2 p.3
  exact_formula (d ⊗ e) t = factors d e (exact_formula d) (exact_formula e) t
  exact_formula (⊝ e) t = known_negation (exact_formula e t)

-- the same for whole numbers: the float reading is the whole reading
pub whole_formula : (f : Format) (n : ℕ) (β : ℕ → ℕ) (ρ : ℕ → Float) (ζ : ℕ → ℤ) → ((i : ℕ) → i < n → Known (ρ i) (ζ i) 0 (β i))
    → (e : Formula) → T (stays_exact f n 0 (λ i. 0) β e) → Known (in_float f ρ e) (in_whole ζ e) 0 (bound β e)
whole_formula f n β ρ ζ known e t =
    let v = weight (λ i. 0) e in
    subst (λ (k : ℕ). Known (in_float f ρ e) (in_whole ζ e) k (bound β e)) (places_is v 0 ∙ mul-zero v) (exact_formula f n 0 (λ i. 0) β 0 (le_refl 0) ρ ζ known e t)
