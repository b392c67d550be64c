-- The signed sum by a row or a column: expansions, the transpose, and a matrix with two equal columns. Each for every order.
-- Assumes nothing.
use mathlib.Core.Path.{◌≡◌, refl, sym, ap, ap₂, ◌∙◌, fun_ext}
use mathlib.Core.List.{List, [], ◌∷◌, map, Memᴰ}
use Prim.Native.Nat.{ℕ, zero, suc, ◌≤◌, ◌<◌, zero-le, suc-le-suc}
use native.Mathlib.Nat.{le_of_suc-le-suc, zero-lt-suc, not-suc-le-zero}
use lib.IntN.{ℤ, pos, negsuc, neg_ℤ, ◌+ℤ◌, ◌*ℤ◌, *ℤ_comm, neg_ℤ-neg_ℤ}
use Rattle.whole.proofs.Ring.{neg_mul, neg_mul_neg}
use Rattle.whole.proofs.Formula.{var, con, ◌⊕◌, ◌⊗◌, ⊝, same, at}
use Rattle.whole.proofs.Skip.{skip_le}
use Rattle.whole.proofs.Sum.{sum_ext, sum_zero, sum_mul, sum_swap, sum_skip, sum_over_ext, sum_over_map, sum_over_mul, sum_over_joined}
use Rattle.whole.proofs.Orders.{orders_sound, sign_lead}
use Rattle.whole.specs.Sum.{sum, product, sum_over}
use Rattle.whole.specs.Matrix.{Matrix}
use Rattle.whole.specs.Order.{parity, sign, down_rows, skip, lead, orders, exact_signed_sum}

-- m without the column c and the row r
abbrev pub without : ℕ → ℕ → Matrix → Matrix
without c r m = λ d s. m (skip c d) (skip r s)

-- the cofactor of column c, row r in a matrix of the order n + 1
abbrev pub cofactor : ℕ → Matrix → Matrix
cofactor n m = λ c r. parity c *ℤ parity r *ℤ exact_signed_sum n (without c r m)

-- ---- the expansion along the first row
-- a renaming of columns goes from the order to the matrix
down_map : (m : Matrix) (f : ℕ → ℕ) (cs : List ℕ) → down_rows m (map f cs) ≡ down_rows (λ c r. m (f c) r) cs
unfolding down_rows product
down_map m f [] = refl
down_map m f (c ∷ cs) = ap (λ (z : ℤ). m (f c) 0 *ℤ z) (down_map (λ d r. m d (suc r)) f cs)

-- the product down the rows, by the first column
down_lead : (m : Matrix) (c : ℕ) (cs : List ℕ) → down_rows m (lead c cs) ≡ m c 0 *ℤ down_rows (without c 0 m) cs
unfolding down_rows product
down_lead m c cs = ap (λ (z : ℤ). m c 0 *ℤ z) (down_map (λ d r. m d (suc r)) (skip c) cs)

-- the part of the signed sum over the orders that have the column c first
led : (n c : ℕ) → c ≤ n → (m : Matrix) → sum_over (λ cs. sign cs *ℤ down_rows m cs) (map (lead c) (orders n)) ≡ parity c *ℤ (m c 0 *ℤ exact_signed_sum n (without c 0 m))
unfolding exact_signed_sum
led n c h m =
    sum_over_map (λ cs. sign cs *ℤ down_rows m cs) (lead c) (orders n)
    ∙ sum_over_ext (orders n) by_order
    ∙ sym (sum_over_mul (parity c) (λ cs. m c 0 *ℤ (sign cs *ℤ down_rows (without c 0 m) cs)) (orders n))
    ∙ ap (λ (z : ℤ). parity c *ℤ z) (sym (sum_over_mul (m c 0) (λ cs. sign cs *ℤ down_rows (without c 0 m) cs) (orders n)))
  where
    by_order : (cs : List ℕ) → Memᴰ cs (orders n) → sign (lead c cs) *ℤ down_rows m (lead c cs) ≡ parity c *ℤ (m c 0 *ℤ (sign cs *ℤ down_rows (without c 0 m) cs))
    by_order cs i =
        ap₂ (λ (u v : ℤ). u *ℤ v) (sign_lead n c cs h (orders_sound n cs i)) (down_lead m c cs)
        ∙ same (var 0 ⊗ var 1 ⊗ (var 2 ⊗ var 3)) (var 0 ⊗ (var 2 ⊗ (var 1 ⊗ var 3))) tt (at (parity c ∷ sign cs ∷ m c 0 ∷ down_rows (without c 0 m) cs ∷ []))

-- the first row chooses its column c, and the other rows order the columns that are left
pub expansion_first : (n : ℕ) (m : Matrix) → exact_signed_sum (suc n) m ≡ sum (suc n) (λ c. parity c *ℤ (m c 0 *ℤ exact_signed_sum n (without c 0 m)))
unfolding exact_signed_sum orders
expansion_first n m =
    sum_over_joined (λ cs. sign cs *ℤ down_rows m cs) (suc n) (λ c. map (lead c) (orders n))
    ∙ sum_ext (suc n) (λ c l. led n c (le_of_suc-le-suc l) m)

-- the signed sum of the order 0: the one order of no column
pub signed_sum_zero : (m : Matrix) → exact_signed_sum 0 m ≡ pos 1
unfolding exact_signed_sum orders sum_over down_rows product
signed_sum_zero m = refl

-- ---- entries below the order
-- what holds of all places below n + 1 holds of those that are left without the column c and the row r
pub places_without : (P : ℕ → ℕ → Type 0) (n c r : ℕ) → c ≤ n → r ≤ n → ((d s : ℕ) → d < suc n → s < suc n → P d s) → (d s : ℕ) → d < n → s < n → P (skip c d) (skip r s)
places_without P n c r hc hr h d s k l = h (skip c d) (skip r s) (suc-le-suc (skip_le n c d hc k)) (suc-le-suc (skip_le n r s hr l))

-- the signed sum looks only at the entries below the order
pub signed_sum_ext : (n : ℕ) (m w : Matrix) → ((c r : ℕ) → c < n → r < n → m c r ≡ w c r) → exact_signed_sum n m ≡ exact_signed_sum n w
signed_sum_ext zero m w h = signed_sum_zero m ∙ sym (signed_sum_zero w)
signed_sum_ext (suc n) m w h =
    expansion_first n m
    ∙ sum_ext (suc n) (λ c l. ap₂ (λ (u v : ℤ). parity c *ℤ (u *ℤ v)) (h c 0 l (zero-lt-suc n))
    (signed_sum_ext n (without c 0 m) (without c 0 w) (places_without (λ d s. m d s ≡ w d s) n c 0 (le_of_suc-le-suc l) zero-le h)))
    ∙ sym (expansion_first n w)

-- and so does a cofactor
pub cofactor_ext : (n : ℕ) (m w : Matrix) → ((c r : ℕ) → c < suc n → r < suc n → m c r ≡ w c r) → (c r : ℕ) → c ≤ n → r ≤ n → cofactor n m c r ≡ cofactor n w c r
cofactor_ext n m w h c r hc hr = ap (λ (z : ℤ). parity c *ℤ parity r *ℤ z) (signed_sum_ext n (without c r m) (without c r w) (places_without (λ d s. m d s ≡ w d s) n c r hc hr h))

-- ---- two columns left out: c and then the j-th of the rest, or `skip c j` and then c
-- the place of c among the columns other than `skip c j`
abbrev other : ℕ → ℕ → ℕ
other zero j = zero
other (suc c) zero = c
other (suc c) (suc j) = suc (other c j)

-- there stands c
other_is : (c j : ℕ) → skip (skip c j) (other c j) ≡ c
other_is zero j = refl
other_is (suc c) zero = refl
other_is (suc c) (suc j) = ap suc (other_is c j)

-- both ways leave the same columns
other_rest : (c j s : ℕ) → skip (skip c j) (skip (other c j) s) ≡ skip c (skip j s)
other_rest zero j s = refl
other_rest (suc c) zero s = refl
other_rest (suc c) (suc j) zero = refl
other_rest (suc c) (suc j) (suc s) = ap suc (other_rest c j s)

-- the place is below the order
other_le : (n c j : ℕ) → c ≤ suc n → j ≤ n → other c j ≤ n
other_le n zero j h l = zero-le
other_le n (suc c) zero h l = le_of_suc-le-suc h
other_le zero (suc c) (suc j) h l = absurd (not-suc-le-zero l)
other_le (suc n) (suc c) (suc j) h l = suc-le-suc (other_le n c j (le_of_suc-le-suc h) (le_of_suc-le-suc l))

-- the two ways have opposite signs
other_parity : (c j : ℕ) → parity (skip c j) *ℤ parity (other c j) ≡ neg_ℤ (parity c *ℤ parity j)
other_parity zero j = neg_mul (parity j) (pos 1) ∙ ap neg_ℤ (*ℤ_comm (parity j) (pos 1))
other_parity (suc c) zero = *ℤ_comm (pos 1) (parity c) ∙ sym (neg_ℤ-neg_ℤ (parity c *ℤ pos 1)) ∙ ap neg_ℤ (sym (neg_mul (parity c) (pos 1)))
other_parity (suc c) (suc j) = neg_mul_neg (parity (skip c j)) (parity (other c j)) ∙ other_parity c j ∙ ap neg_ℤ (sym (neg_mul_neg (parity c) (parity j)))

-- ---- the expansion along any column
-- one term of the double sum, from both sides
term : (J o i c j x y d : ℤ) → J *ℤ o ≡ neg_ℤ (c *ℤ j) → J *ℤ (x *ℤ (y *ℤ (o *ℤ i *ℤ d))) ≡ y *ℤ (c *ℤ neg_ℤ i *ℤ (j *ℤ (x *ℤ d)))
term J o i c j x y d h =
    same (var 0 ⊗ (var 5 ⊗ (var 6 ⊗ (var 1 ⊗ var 2 ⊗ var 7)))) (var 0 ⊗ var 1 ⊗ (var 5 ⊗ var 2 ⊗ var 6 ⊗ var 7)) tt ζ
    ∙ ap (λ (z : ℤ). z *ℤ (x *ℤ i *ℤ y *ℤ d)) h
    ∙ same (⊝ (var 3 ⊗ var 4) ⊗ (var 5 ⊗ var 2 ⊗ var 6 ⊗ var 7)) (var 6 ⊗ (var 3 ⊗ ⊝ (var 2) ⊗ (var 4 ⊗ (var 5 ⊗ var 7)))) tt ζ
  where
    ζ : ℕ → ℤ
    ζ = at (J ∷ o ∷ i ∷ c ∷ j ∷ x ∷ y ∷ d ∷ [])

-- two factors go into a sum
sum_mul_mul : (n : ℕ) (a b : ℤ) (f : ℕ → ℤ) → a *ℤ (b *ℤ sum n f) ≡ sum n (λ i. a *ℤ (b *ℤ f i))
sum_mul_mul n a b f = ap (λ (z : ℤ). a *ℤ z) (sum_mul n b f) ∙ sum_mul n a (λ i. b *ℤ f i)

-- m without the columns c and `skip c j`, and without the rows 0 and r + 1
abbrev inside : ℕ → ℕ → ℕ → Matrix → Matrix
inside c j r m = λ d s. m (skip c (skip j d)) (suc (skip r s))

-- the term of the columns c and `skip c j` in the rows r + 1 and 0
abbrev double : ℕ → ℕ → Matrix → ℕ → ℕ → ℤ
double n c m j r = m c (suc r) *ℤ (parity c *ℤ parity (suc r) *ℤ (parity j *ℤ (m (skip c j) 0 *ℤ exact_signed_sum n (inside c j r m))))

-- what both ways leave of m
inside_eq : (c j r : ℕ) (m : Matrix) → without (other c j) r (without (skip c j) 0 m) ≡ inside c j r m
inside_eq c j r m = fun_ext (λ d. fun_ext (λ s. ap (λ (e : ℕ). m e (suc (skip r s))) (other_rest c j d)))

-- the same term, reached from the first row
double_eq : (n c : ℕ) (m : Matrix) (j r : ℕ) → let W : Matrix = without (skip c j) 0 m in parity (skip c j) *ℤ (m (skip c j) 0 *ℤ (W (other c j) r *ℤ cofactor n W (other c j) r)) ≡ double n c m j r
double_eq n c m j r =
    ap₂ (λ (y : ℤ) (W : Matrix). parity (skip c j) *ℤ (m (skip c j) 0 *ℤ (y *ℤ (parity (other c j) *ℤ parity r *ℤ exact_signed_sum n W)))) (ap (λ (d : ℕ). m d (suc r)) (other_is c j)) (inside_eq c j r m)
    ∙ term (parity (skip c j)) (parity (other c j)) (parity r) (parity c) (parity j) (m (skip c j) 0) (m c (suc r)) (exact_signed_sum n (inside c j r m)) (other_parity c j)

-- the term of the first row, as a cofactor
first_term : (a x d : ℤ) → a *ℤ (x *ℤ d) ≡ x *ℤ (a *ℤ pos 1 *ℤ d)
first_term a x d = same (var 0 ⊗ (var 1 ⊗ var 2)) (var 1 ⊗ (var 0 ⊗ con (pos 1) ⊗ var 2)) tt (at (a ∷ x ∷ d ∷ []))

-- the signed sum by the column c: each entry times its cofactor
pub expansion_column : (n c : ℕ) → c ≤ n → (m : Matrix) → exact_signed_sum (suc n) m ≡ sum (suc n) (λ r. m c r *ℤ cofactor n m c r)
unfolding sum
expansion_column zero zero h m = expansion_first 0 m ∙ ap (λ (z : ℤ). z +ℤ pos 0) (first_term (pos 1) (m 0 0) (exact_signed_sum 0 (without 0 0 m)))
expansion_column zero (suc c) h m = absurd (not-suc-le-zero h)
expansion_column (suc n) c h m =
    expansion_first (suc n) m
    ∙ sum_skip (suc n) c (λ d. parity d *ℤ (m d 0 *ℤ exact_signed_sum (suc n) (without d 0 m))) h
    ∙ ap₂ (λ (u v : ℤ). u +ℤ v) (first_term (parity c) (m c 0) (exact_signed_sum (suc n) (without c 0 m)))
    (sum_ext (suc n) (λ j l. from_first j (expansion_column n (other c j) (other_le n c j h (le_of_suc-le-suc l)) (without (skip c j) 0 m)))
    ∙ sum_swap (suc n) (suc n) (double n c m)
    ∙ sum_ext (suc n) (λ r l. sym (from_column r)))
  where
    from_first : (j : ℕ) → let W : Matrix = without (skip c j) 0 m in exact_signed_sum (suc n) W ≡ sum (suc n) (λ r. W (other c j) r *ℤ cofactor n W (other c j) r) → parity (skip c j) *ℤ (m (skip c j) 0 *ℤ exact_signed_sum (suc n) W) ≡ sum (suc n) (double n c m j)
    from_first j e =
        let W : Matrix = without (skip c j) 0 m in
        ap (λ (z : ℤ). parity (skip c j) *ℤ (m (skip c j) 0 *ℤ z)) e
        ∙ sum_mul_mul (suc n) (parity (skip c j)) (m (skip c j) 0) (λ r. W (other c j) r *ℤ cofactor n W (other c j) r)
        ∙ sum_ext (suc n) (λ r l. double_eq n c m j r)

    from_column : (r : ℕ) → m c (suc r) *ℤ cofactor (suc n) m c (suc r) ≡ sum (suc n) (λ j. double n c m j r)
    from_column r =
        ap (λ (z : ℤ). m c (suc r) *ℤ (parity c *ℤ parity (suc r) *ℤ z)) (expansion_first n (without c (suc r) m))
        ∙ sum_mul_mul (suc n) (m c (suc r)) (parity c *ℤ parity (suc r)) (λ j. parity j *ℤ (m (skip c j) 0 *ℤ exact_signed_sum n (inside c j r m)))

-- ---- the transpose
-- rows for columns
abbrev pub transpose : Matrix → Matrix
transpose m = λ c r. m r c

-- the transpose has the same signed sum
pub signed_sum_transpose : (n : ℕ) (m : Matrix) → exact_signed_sum n m ≡ exact_signed_sum n (transpose m)
signed_sum_transpose zero m = signed_sum_zero m ∙ sym (signed_sum_zero (transpose m))
signed_sum_transpose (suc n) m =
    expansion_column n 0 zero-le m
    ∙ sum_ext (suc n) (λ r l. ap (λ (z : ℤ). m 0 r *ℤ (pos 1 *ℤ parity r *ℤ z)) (signed_sum_transpose n (without 0 r m))
    ∙ same (var 0 ⊗ (con (pos 1) ⊗ var 1 ⊗ var 2)) (var 1 ⊗ (var 0 ⊗ var 2)) tt (at (m 0 r ∷ parity r ∷ exact_signed_sum n (without r 0 (transpose m)) ∷ [])))
    ∙ sym (expansion_first n (transpose m))

-- the cofactors of the transpose
pub cofactor_transpose : (n : ℕ) (m : Matrix) (c r : ℕ) → cofactor n (transpose m) c r ≡ cofactor n m r c
cofactor_transpose n m c r = ap₂ (λ (u v : ℤ). u *ℤ v) (*ℤ_comm (parity c) (parity r)) (sym (signed_sum_transpose n (without r c m)))

-- the signed sum by the row r: each entry times its cofactor
pub expansion_row : (n r : ℕ) → r ≤ n → (m : Matrix) → exact_signed_sum (suc n) m ≡ sum (suc n) (λ c. m c r *ℤ cofactor n m c r)
expansion_row n r h m =
    signed_sum_transpose (suc n) m
    ∙ expansion_column n r h (transpose m)
    ∙ sum_ext (suc n) (λ c l. ap (λ (z : ℤ). m c r *ℤ z) (cofactor_transpose n m r c))

-- ---- two equal columns
-- a column whose entries all have the cofactor 0
by_column : (n c : ℕ) → c ≤ n → (m : Matrix) → ((r : ℕ) → exact_signed_sum n (without c r m) ≡ pos 0) → exact_signed_sum (suc n) m ≡ pos 0
by_column n c h m z =
    expansion_column n c h m
    ∙ sum_zero (suc n) (λ r l. ap (λ (w : ℤ). m c r *ℤ (parity c *ℤ parity r *ℤ w)) (z r) ∙ same (var 0 ⊗ (var 1 ⊗ con (pos 0))) (con (pos 0)) tt (at (m c r ∷ (parity c *ℤ parity r) ∷ [])))

-- two equal columns at the order 2
two_twins : (m : Matrix) → ((r : ℕ) → m 0 r ≡ m 1 r) → exact_signed_sum 2 m ≡ pos 0
unfolding exact_signed_sum orders sum_over down_rows product
two_twins m e =
    ap₂ (λ (u v : ℤ). pos 1 *ℤ (m 0 0 *ℤ (u *ℤ pos 1)) +ℤ (negsuc 0 *ℤ (v *ℤ (m 0 1 *ℤ pos 1)) +ℤ pos 0)) (sym (e 1)) (sym (e 0))
    ∙ same (con (pos 1) ⊗ (var 0 ⊗ (var 1 ⊗ con (pos 1))) ⊕ (con (negsuc 0) ⊗ (var 0 ⊗ (var 1 ⊗ con (pos 1))) ⊕ con (pos 0))) (con (pos 0)) tt (at (m 0 0 ∷ m 0 1 ∷ []))

-- the first column equal to another
first_twin : (n q : ℕ) → q < n → (m : Matrix) → ((r : ℕ) → m 0 r ≡ m (suc q) r) → exact_signed_sum (suc n) m ≡ pos 0
first_twin zero q l m e = absurd (not-suc-le-zero l)
first_twin (suc zero) zero l m e = two_twins m e
first_twin (suc zero) (suc q) l m e = absurd (not-suc-le-zero (le_of_suc-le-suc l))
first_twin (suc (suc n)) zero l m e =
    by_column (suc (suc n)) 2 (suc-le-suc (suc-le-suc zero-le)) m (λ r. first_twin (suc n) zero (zero-lt-suc n) (without 2 r m) (λ s. e (skip r s)))
first_twin (suc (suc n)) (suc q) l m e =
    by_column (suc (suc n)) 1 (suc-le-suc zero-le) m (λ r. first_twin (suc n) q (le_of_suc-le-suc l) (without 1 r m) (λ s. e (skip r s)))

-- a matrix with two equal columns has the signed sum 0
pub twins : (n c j : ℕ) → c ≤ n → j < n → (m : Matrix) → ((r : ℕ) → m c r ≡ m (skip c j) r) → exact_signed_sum (suc n) m ≡ pos 0
twins n zero j h l m e = first_twin n j l m e
twins n (suc c) zero h l m e = first_twin n c h m (λ r. sym (e r))
twins zero (suc c) (suc j) h l m e = absurd (not-suc-le-zero l)
twins (suc n) (suc c) (suc j) h l m e =
    by_column (suc n) 0 zero-le m (λ r. twins n c j (le_of_suc-le-suc h) (le_of_suc-le-suc l) (without 0 r m) (λ s. e (skip r s)))
