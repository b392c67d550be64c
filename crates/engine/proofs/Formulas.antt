-- The formulas of the port's determinants, dots and cofactors, over the entries as variables; and an inverse by quotients, or by cofactors times signs times one reciprocal, as the exact adjugate over the sum.
-- The laws are over the format, the order and the limits. Assumes nothing.
use Rattle.std.proofs.Common.{◌≡◌, ℕ, zero, suc, ◌+◌, ◌*◌, ◌%◌, ◌^◌, ◌<◌, ◌≤◌, Bool, ◌&&◌, T, leb, [], ◌∷◌, ℤ, pos, ◌*ℤ◌, nat_abs, sym, ◌∙◌, subst, subst₂, zero-le, le_trans, le_of_eq, le_of_suc-le-suc, lt_of_le_of_lt, zero-lt-suc, zero-add, mul-one, leb→le}
use lib.Ieee.{Float, Format, prec, low, mul, div}
use lib.Ieee.Fits.{and_l, and_r}
use Rattle.whole.specs.Matrix.{Matrix}
use Rattle.whole.specs.Order.{parity, skip, exact_signed_sum}
use Rattle.whole.proofs.Formula.{Formula, var, con, ◌⊕◌, ◌⊖◌, ◌⊗◌, ⊝, in_whole, alike, same, at, bound}
use Rattle.whole.proofs.Expansion.{without}
use Rattle.whole.proofs.Adjugate.{adjugate}
use Rattle.whole.proofs.Inverse.{numerators}
use Rattle.whole.proofs.Written.{entry, entries, minor_formula, written_minor, written_cofactor}
use Rattle.exact.specs.Value.{Exact}
use Rattle.exact.proofs.Signed.{sign_of}
use Rattle.exact.proofs.Bounds.{power_low}
use Rattle.exact.proofs.Known.{Known, known_within, known_product, known_quotient, known_reciprocal}
use Rattle.exact.proofs.Reading.{in_float}
use Rattle.engine.specs.Whole.{Floats, all_places}
use Rattle.engine.proofs.Places.{all_places_lem}
use Rattle.engine.proofs.Readings.{Holds, column_wise, entry_test, over_entries}

-- ---- determinants

-- order 2
abbrev pub sum2 : Formula
sum2 = entry 2 0 0 ⊗ entry 2 1 1 ⊖ entry 2 1 0 ⊗ entry 2 0 1

-- order 3, of any entries
abbrev pub sum_of3 : (ℕ → ℕ → Formula) → Formula
sum_of3 e =
    e 0 0 ⊗ (e 1 1 ⊗ e 2 2 ⊖ e 2 1 ⊗ e 1 2)
    ⊖ e 1 0 ⊗ (e 0 1 ⊗ e 2 2 ⊖ e 2 1 ⊗ e 0 2)
    ⊕ e 2 0 ⊗ (e 0 1 ⊗ e 1 2 ⊖ e 1 1 ⊗ e 0 2)

abbrev pub sum3 : Formula
sum3 = sum_of3 (entry 3)

-- six terms, each x·(y·z), three added and then three subtracted
abbrev six : Formula → Formula → Formula → Formula → Formula → Formula → Formula → Formula → Formula → Formula
six a b c d e f g h i = a ⊗ (b ⊗ c) ⊕ d ⊗ (e ⊗ f) ⊕ g ⊗ (h ⊗ i) ⊖ a ⊗ (e ⊗ i) ⊖ d ⊗ (h ⊗ c) ⊖ g ⊗ (b ⊗ f)

-- order 4: the vector of det_sub_proc(1, 2, 3) dot row 0
abbrev pub sum4 : Formula
sum4 =
    let x : ℕ → Formula = λ c. entry 4 c 1 in
    let y : ℕ → Formula = λ c. entry 4 c 2 in
    let z : ℕ → Formula = λ c. entry 4 c 3 in
    six (x 1) (y 2) (z 3) (x 2) (y 3) (z 1) (x 3) (y 1) (z 2) ⊗ entry 4 0 0
    ⊕ (six (x 3) (y 2) (z 0) (x 2) (y 0) (z 3) (x 0) (y 3) (z 2) ⊗ entry 4 1 0
    ⊕ (six (x 0) (y 1) (z 3) (x 1) (y 3) (z 0) (x 3) (y 0) (z 1) ⊗ entry 4 2 0
    ⊕ six (x 2) (y 1) (z 0) (x 1) (y 0) (z 2) (x 0) (y 2) (z 1) ⊗ entry 4 3 0))

-- ---- a row times a column

-- as the dots sum
abbrev pub dot2 : Formula
dot2 = var 0 ⊗ var 2 ⊕ var 1 ⊗ var 3

abbrev pub dot3 : Formula
dot3 = var 0 ⊗ var 3 ⊕ (var 1 ⊗ var 4 ⊕ var 2 ⊗ var 5)

abbrev pub dot4 : Formula
dot4 = var 0 ⊗ var 4 ⊕ (var 1 ⊗ var 5 ⊕ (var 2 ⊗ var 6 ⊕ var 3 ⊗ var 7))

-- as the order 4 product sums, from left to right
abbrev pub combine4 : Formula
combine4 = var 0 ⊗ var 4 ⊕ var 1 ⊗ var 5 ⊕ var 2 ⊗ var 6 ⊕ var 3 ⊗ var 7

-- ---- cofactors: what stands at column c, row r of the inverse, over the determinant

-- order 2: m[1][1], −m[0][1], −m[1][0], m[0][0]
abbrev pub cofactor2 : ℕ → ℕ → Formula
cofactor2 zero zero = entry 2 1 1
cofactor2 zero (suc r) = ⊝ (entry 2 0 1)
cofactor2 (suc c) zero = ⊝ (entry 2 1 0)
cofactor2 (suc c) (suc r) = entry 2 0 0

-- order 3: component c of the cross of the columns after column r
abbrev pub cofactor3 : ℕ → ℕ → Formula
cofactor3 c r =
    let a = (r + 1) % 3 in
    let b = (r + 2) % 3 in
    let p = (c + 1) % 3 in
    let q = (c + 2) % 3 in entry 3 a p ⊗ entry 3 b q ⊖ entry 3 a q ⊗ entry 3 b p

-- order 4: the minor of the transpose without its column c and each kept column without its element r
abbrev pub minor4 : ℕ → ℕ → Formula
minor4 c r = sum_of3 (λ d s. entry 4 (skip r s) (skip c d))

-- a product of three, the last over 2 ^ k
three_factors : (f : Format) {x s y : Float} {a b c : ℤ} {k D : ℕ} → Known x a 0 D → Known s b 0 1 → Known y c k 1 → D < 2 ^ prec f → k ≤ low f → Known (mul f (mul f x s) y) (c *ℤ (b *ℤ a)) k D
three_factors f {x} {s} {y} {a} {b} {c} {k} {D} g h i small fine =
    let once = mul-one D in
    let twice = mul-one (D * 1) ∙ once in
    let p = known_product f g h (subst (λ (q : ℕ). q < 2 ^ prec f) (sym once) small) zero-le in
    let q = known_product f p i (subst (λ (q : ℕ). q < 2 ^ prec f) (sym twice) small) (le_trans (le_of_eq (zero-add k)) fine) in
    let turned = same (var 0 ⊗ var 1 ⊗ var 2) (var 2 ⊗ (var 1 ⊗ var 0)) tt (at (a ∷ b ∷ c ∷ [])) in
    record {
      exact = subst₂ (Exact (mul f (mul f x s) y)) turned (zero-add k) q.exact;
      within = subst₂ (λ (z : ℤ) (d : ℕ). nat_abs z ≤ d) turned twice q.within;
    }

-- ---- the adjugate, by formulas that pass one test at all places
module _ (f : Format) (n B D : ℕ) (C : ℕ → ℕ → Formula) (small : D < 2 ^ prec f) where
  -- a formula is exact and within D
  abbrev sized : ℕ → ℕ → Bool
  sized c r = entry_test f (suc n) B (C c r) && leb (bound (λ i. B) (C c r)) D

  -- the formulas are the cofactors
  abbrev pub cofactor_test : ℕ → ℕ → Bool
  cofactor_test c r = alike (C c r) (con (parity r *ℤ parity c) ⊗ minor_formula n r c) && sized c r

  -- the formulas are the minors, without their signs
  abbrev pub minor_test : ℕ → ℕ → Bool
  minor_test c r = alike (C c r) (minor_formula n r c) && sized c r

  -- a matrix, and a determinant that is plus or minus 2 ^ k
  module _ (e : Floats) (M : Matrix) (holds : Holds (suc n) B e M) (k : ℕ) (power : nat_abs (exact_signed_sum (suc n) M) ≡ 2 ^ k)
      (det : Float) (b : ℕ) (det-known : Known det (exact_signed_sum (suc n) M) 0 b) (det-small : b < 2 ^ prec f) where
    -- the formula at a place
    abbrev formula : ℕ → ℕ → Float
    formula c r = in_float f (column_wise (suc n) e) (C c r)

    -- its value, within D
    sized_known : (c r : ℕ) → T (sized c r) → (z : ℤ) → in_whole (entries (suc n) M) (C c r) ≡ z → Known (formula c r) z 0 D
    sized_known c r t z is =
        let p = entry_test f (suc n) B (C c r) in
        let q = leb (bound (λ i. B) (C c r)) D in
        subst (λ (z : ℤ). Known (formula c r) z 0 D) is (known_within (leb→le _ D (and_r p q t)) (over_entries f (suc n) B (zero-lt-suc n) e M holds (C c r) (and_l p q t)))

    -- divided by the determinant
    pub divided : T (all_places (suc n) cofactor_test) → (c r : ℕ) → c < suc n → r < suc n → Known (div f (formula c r) det) (numerators (suc n) (sign_of (exact_signed_sum (suc n) M)) M c r) k D
    divided test c r h l =
        let t = (all_places_lem (suc n) cofactor_test).0 test c r h l in
        let like = alike (C c r) (con (parity r *ℤ parity c) ⊗ minor_formula n r c) in
        known_quotient f k
        (sized_known c r (and_r like (sized c r) t) (adjugate (suc n) M c r) (written_cofactor n (C c r) r c (le_of_suc-le-suc h) (and_l like (sized c r) t) M))
        det-known power small det-small

    -- times the sign, times the reciprocal of the determinant
    pub times_reciprocal : (one : Float) → Exact one (pos 1) 0 → (sign : ℕ → ℕ → Float) → ((c r : ℕ) → c < suc n → r < suc n → Known (sign c r) (parity r *ℤ parity c) 0 1)
        → T (all_places (suc n) minor_test) → (c r : ℕ) → c < suc n → r < suc n → Known (mul f (mul f (formula c r) (sign c r)) (div f one det)) (numerators (suc n) (sign_of (exact_signed_sum (suc n) M)) M c r) k D
    times_reciprocal one one-is sign sign_known test c r h l =
        let t = (all_places_lem (suc n) minor_test).0 test c r h l in
        let like = alike (C c r) (minor_formula n r c) in
        let minor = sized_known c r (and_r like (sized c r) t) (exact_signed_sum n (without r c M)) (written_minor n (C c r) r c (le_of_suc-le-suc h) (and_l like (sized c r) t) M) in
        three_factors f minor (sign_known c r h l) (known_reciprocal f k one-is det-known power det-small) small
        (power_low f k (lt_of_le_of_lt (le_trans (le_of_eq (sym power)) det-known.within) det-small))
