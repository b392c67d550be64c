-- Formulas of sums, differences and products: what a formula is at given whole numbers, that formulas that multiply out alike are equal, and how large one can be.
-- Assumes nothing.
use mathlib.Core.Path.{◌≡◌, refl, sym, ap, ap₂, ◌∙◌}
use mathlib.Core.List.{List, [], ◌∷◌}
use mathlib.Core.Bool.{Bool, true, false, ◌&&◌}
use Prim.Native.Nat.{ℕ, zero, suc, ◌+◌, ◌*◌, ◌≤◌}
use native.Mathlib.Nat.{le_refl, le_trans, le_of_eq, add-le-add}
use lib.Dec.{T, leb, eqb, eqb→eq}
use lib.Ieee.Fits.{and_l, and_r}
use lib.IntN.{ℤ, pos, neg_ℤ, ◌+ℤ◌, ◌*ℤ◌, ◌-ℤ◌, nat_abs, zero-*ℤ, *ℤ-zero, +ℤ_idl, +ℤ_idr, +ℤ_assoc, neg_ℤ-+ℤ}
use Rattle.whole.proofs.Ring.{neg_mul, one_mul, mul_one, *ℤ-assoc, *ℤ-left-comm, +ℤ-left-comm, add_mul, mul_add, abs_neg, abs_add, abs_mul_le, abs_zero, sub_zero_eq}

infixl 6 ◌⊕◌
infixl 6 ◌⊖◌
infixl 7 ◌⊗◌
-- a formula: numbered variables, constants, sums, differences, products, negatives
pub data Formula : Type 0 where
  var : ℕ → Formula
  con : ℤ → Formula
  ◌⊕◌ ◌⊖◌ ◌⊗◌ : Formula → Formula → Formula
  ⊝ : Formula → Formula

-- a formula's value, the variable i being ζ i
abbrev pub in_whole : (ℕ → ℤ) → Formula → ℤ
in_whole ζ (var i) = ζ i
in_whole ζ (con z) = z
in_whole ζ (d ⊕ e) = in_whole ζ d +ℤ in_whole ζ e
in_whole ζ (d ⊖ e) = in_whole ζ d -ℤ in_whole ζ e
in_whole ζ (d ⊗ e) = in_whole ζ d *ℤ in_whole ζ e
in_whole ζ (⊝ e) = neg_ℤ (in_whole ζ e)

-- values for the variables 0, 1, 2, .. as a list
abbrev pub at : List ℤ → ℕ → ℤ
at [] i = pos 0
at (a ∷ rest) zero = a
at (a ∷ rest) (suc i) = at rest i

-- ---- lists of numbers
-- the test whether two lists of numbers are equal
abbrev pub equal : List ℕ → List ℕ → Bool
equal [] [] = true
equal [] (j ∷ n) = false
equal (i ∷ m) [] = false
equal (i ∷ m) (j ∷ n) = elim (eqb i j) [ true ↦ equal m n | false ↦ false ]

-- lists that pass the test are equal
pub equal→eq : (m n : List ℕ) → T (equal m n) → m ≡ n
equal→eq [] [] t = refl
equal→eq [] (j ∷ n) t = absurd t
equal→eq (i ∷ m) [] t = absurd t
equal→eq (i ∷ m) (j ∷ n) t = by_first (eqb i j) (eqb→eq i j) (equal→eq m n) t
  where
    by_first : (b : Bool) → (T b → i ≡ j) → (T (equal m n) → m ≡ n) → T (elim b [ true ↦ equal m n | false ↦ false ]) → i ∷ m ≡ j ∷ n
    by_first true h rest t = ap₂ (λ (k : ℕ) (l : List ℕ). k ∷ l) (h tt) (rest t)
    by_first false h rest t = absurd t

-- ---- multiplying out
-- a polynomial: its terms, each a coefficient with a monomial, which is its variables in order; no monomial stands twice
pub data Polynomial : Type 0 where
  nil : Polynomial
  term : ℤ → List ℕ → Polynomial → Polynomial

-- a variable into a monomial, in order
abbrev insert : ℕ → List ℕ → List ℕ
insert i [] = i ∷ []
insert i (j ∷ m) = elim (leb i j) [ true ↦ i ∷ j ∷ m | false ↦ j ∷ insert i m ]

-- the product of two monomials
abbrev merge : List ℕ → List ℕ → List ℕ
merge [] n = n
merge (i ∷ m) n = insert i (merge m n)

-- a term added to a polynomial
abbrev add_term : ℤ → List ℕ → Polynomial → Polynomial
add_term c m nil = term c m nil
add_term c m (term d n p) = elim (equal m n) [ true ↦ term (c +ℤ d) n p | false ↦ term d n (add_term c m p) ]

-- the sum of two polynomials
abbrev add : Polynomial → Polynomial → Polynomial
add nil q = q
add (term c m p) q = add_term c m (add p q)

-- c times the monomial m times p, added to q
abbrev add_multiple : ℤ → List ℕ → Polynomial → Polynomial → Polynomial
add_multiple c m nil q = q
add_multiple c m (term d n p) q = add_term (c *ℤ d) (merge m n) (add_multiple c m p q)

-- the product of two polynomials
abbrev multiply : Polynomial → Polynomial → Polynomial
multiply nil q = nil
multiply (term c m p) q = add_multiple c m q (multiply p q)

-- the negative of a polynomial
abbrev negate : Polynomial → Polynomial
negate nil = nil
negate (term c m p) = term (neg_ℤ c) m (negate p)

-- a formula multiplied out
abbrev multiplied_out : Formula → Polynomial
multiplied_out (var i) = term (pos 1) (i ∷ []) nil
multiplied_out (con z) = term z [] nil
multiplied_out (d ⊕ e) = add (multiplied_out d) (multiplied_out e)
multiplied_out (d ⊖ e) = add (multiplied_out d) (negate (multiplied_out e))
multiplied_out (d ⊗ e) = multiply (multiplied_out d) (multiplied_out e)
multiplied_out (⊝ e) = negate (multiplied_out e)

-- every coefficient is 0
abbrev vanishes : Polynomial → Bool
vanishes nil = true
vanishes (term c m p) = eqb (nat_abs c) 0 && vanishes p

-- the test: the difference of two formulas, multiplied out, has no term left
abbrev pub alike : Formula → Formula → Bool
alike d e = vanishes (multiplied_out (d ⊖ e))

-- ---- multiplying out keeps the value
-- ζ i is the value of the variable i
module _ (ζ : ℕ → ℤ) where
  -- a monomial's value
  abbrev monomial : List ℕ → ℤ
  monomial [] = pos 1
  monomial (i ∷ m) = ζ i *ℤ monomial m

  -- a polynomial's value
  abbrev value : Polynomial → ℤ
  value nil = pos 0
  value (term c m p) = c *ℤ monomial m +ℤ value p

  -- a variable more is a factor more
  insert_value : (i : ℕ) (m : List ℕ) → monomial (insert i m) ≡ ζ i *ℤ monomial m
  insert_value i [] = refl
  insert_value i (j ∷ m) = by_order (leb i j) (insert_value i m)
    where
      by_order : (b : Bool) → monomial (insert i m) ≡ ζ i *ℤ monomial m → monomial (elim b [ true ↦ i ∷ j ∷ m | false ↦ j ∷ insert i m ]) ≡ ζ i *ℤ (ζ j *ℤ monomial m)
      by_order true h = refl
      by_order false h = ap (λ (z : ℤ). ζ j *ℤ z) h ∙ *ℤ-left-comm (ζ j) (ζ i) (monomial m)

  -- the product's value, of monomials
  merge_value : (m n : List ℕ) → monomial (merge m n) ≡ monomial m *ℤ monomial n
  merge_value [] n = sym (one_mul (monomial n))
  merge_value (i ∷ m) n =
      insert_value i (merge m n)
      ∙ ap (λ (z : ℤ). ζ i *ℤ z) (merge_value m n)
      ∙ sym (*ℤ-assoc (ζ i) (monomial m) (monomial n))

  -- a term more is a summand more
  add_term_value : (c : ℤ) (m : List ℕ) (p : Polynomial) → value (add_term c m p) ≡ c *ℤ monomial m +ℤ value p
  add_term_value c m nil = refl
  add_term_value c m (term d n p) = by_test (equal m n) (λ t. ap monomial (equal→eq m n t)) (add_term_value c m p)
    where
      by_test : (b : Bool) → (T b → monomial m ≡ monomial n) → value (add_term c m p) ≡ c *ℤ monomial m +ℤ value p
          → value (elim b [ true ↦ term (c +ℤ d) n p | false ↦ term d n (add_term c m p) ]) ≡ c *ℤ monomial m +ℤ (d *ℤ monomial n +ℤ value p)
      by_test true h rest =
          ap (λ (z : ℤ). z +ℤ value p) (add_mul c d (monomial n))
          ∙ +ℤ_assoc (c *ℤ monomial n) (d *ℤ monomial n) (value p)
          ∙ ap (λ (z : ℤ). c *ℤ z +ℤ (d *ℤ monomial n +ℤ value p)) (sym (h tt))
      by_test false h rest =
          ap (λ (z : ℤ). d *ℤ monomial n +ℤ z) rest ∙ +ℤ-left-comm (d *ℤ monomial n) (c *ℤ monomial m) (value p)

  -- the sum's value
  add_value : (p q : Polynomial) → value (add p q) ≡ value p +ℤ value q
  add_value nil q = sym (+ℤ_idl (value q))
  add_value (term c m p) q =
      add_term_value c m (add p q)
      ∙ ap (λ (z : ℤ). c *ℤ monomial m +ℤ z) (add_value p q)
      ∙ sym (+ℤ_assoc (c *ℤ monomial m) (value p) (value q))

  -- the inner two of four factors change places
  swap_inner : (a b c d : ℤ) → (a *ℤ b) *ℤ (c *ℤ d) ≡ (a *ℤ c) *ℤ (b *ℤ d)
  swap_inner a b c d = simp (*ℤ-assoc, *ℤ-left-comm)

  -- the multiple's value, added
  add_multiple_value : (c : ℤ) (m : List ℕ) (p q : Polynomial) → value (add_multiple c m p q) ≡ (c *ℤ monomial m) *ℤ value p +ℤ value q
  add_multiple_value c m nil q = sym (ap (λ (z : ℤ). z +ℤ value q) (*ℤ-zero (c *ℤ monomial m)) ∙ +ℤ_idl (value q))
  add_multiple_value c m (term d n p) q =
      add_term_value (c *ℤ d) (merge m n) (add_multiple c m p q)
      ∙ ap₂ (λ (u v : ℤ). u +ℤ v) (ap (λ (z : ℤ). (c *ℤ d) *ℤ z) (merge_value m n) ∙ swap_inner c d (monomial m) (monomial n)) (add_multiple_value c m p q)
      ∙ sym (+ℤ_assoc ((c *ℤ monomial m) *ℤ (d *ℤ monomial n)) ((c *ℤ monomial m) *ℤ value p) (value q))
      ∙ ap (λ (z : ℤ). z +ℤ value q) (sym (mul_add (c *ℤ monomial m) (d *ℤ monomial n) (value p)))

  -- the product's value
  multiply_value : (p q : Polynomial) → value (multiply p q) ≡ value p *ℤ value q
  multiply_value nil q = sym (zero-*ℤ (value q))
  multiply_value (term c m p) q =
      add_multiple_value c m q (multiply p q)
      ∙ ap (λ (z : ℤ). (c *ℤ monomial m) *ℤ value q +ℤ z) (multiply_value p q)
      ∙ sym (add_mul (c *ℤ monomial m) (value p) (value q))

  -- the negative's value
  negate_value : (p : Polynomial) → value (negate p) ≡ neg_ℤ (value p)
  negate_value nil = refl
  negate_value (term c m p) =
      ap₂ (λ (u v : ℤ). u +ℤ v) (neg_mul c (monomial m)) (negate_value p) ∙ sym (neg_ℤ-+ℤ (c *ℤ monomial m) (value p))

  -- multiplying out keeps the value
  multiplied_out_value : (e : Formula) → value (multiplied_out e) ≡ in_whole ζ e
  multiplied_out_value (var i) = +ℤ_idr (pos 1 *ℤ (ζ i *ℤ pos 1)) ∙ one_mul (ζ i *ℤ pos 1) ∙ mul_one (ζ i)
  multiplied_out_value (con z) = +ℤ_idr (z *ℤ pos 1) ∙ mul_one z
  multiplied_out_value (d ⊕ e) =
      add_value (multiplied_out d) (multiplied_out e)
      ∙ ap₂ (λ (u v : ℤ). u +ℤ v) (multiplied_out_value d) (multiplied_out_value e)
  multiplied_out_value (d ⊖ e) =
      add_value (multiplied_out d) (negate (multiplied_out e))
      ∙ ap₂ (λ (u v : ℤ). u +ℤ v) (multiplied_out_value d) (negate_value (multiplied_out e) ∙ ap neg_ℤ (multiplied_out_value e))
  multiplied_out_value (d ⊗ e) =
      multiply_value (multiplied_out d) (multiplied_out e)
      ∙ ap₂ (λ (u v : ℤ). u *ℤ v) (multiplied_out_value d) (multiplied_out_value e)
  multiplied_out_value (⊝ e) = negate_value (multiplied_out e) ∙ ap neg_ℤ (multiplied_out_value e)

  -- where every coefficient is 0 the value is 0
  vanishes_value : (p : Polynomial) → T (vanishes p) → value p ≡ pos 0
  vanishes_value nil t = refl
  vanishes_value (term c m p) t =
      ap₂ (λ (u v : ℤ). u *ℤ monomial m +ℤ v) (abs_zero c (eqb→eq (nat_abs c) 0 (and_l (eqb (nat_abs c) 0) (vanishes p) t))) (vanishes_value p (and_r (eqb (nat_abs c) 0) (vanishes p) t))
      ∙ ap (λ (z : ℤ). z +ℤ pos 0) (zero-*ℤ (monomial m))

-- two formulas that multiply out alike are equal at all whole numbers
pub same : (d e : Formula) → T (alike d e) → (ζ : ℕ → ℤ) → in_whole ζ d ≡ in_whole ζ e
same d e t ζ = sub_zero_eq (in_whole ζ d) (in_whole ζ e) (sym (multiplied_out_value ζ (d ⊖ e)) ∙ vanishes_value ζ (multiplied_out (d ⊖ e)) t)

-- ---- magnitudes
-- a limit on the formula's magnitude, from a limit β i on each variable's
abbrev pub bound : (ℕ → ℕ) → Formula → ℕ
bound β (var i) = β i
bound β (con z) = nat_abs z
bound β (d ⊕ e) = bound β d + bound β e
bound β (d ⊖ e) = bound β d + bound β e
bound β (d ⊗ e) = bound β d * bound β e
bound β (⊝ e) = bound β e

-- no formula exceeds its bound
pub bounded : (ζ : ℕ → ℤ) (β : ℕ → ℕ) → ((i : ℕ) → nat_abs (ζ i) ≤ β i) → (e : Formula) → nat_abs (in_whole ζ e) ≤ bound β e
bounded ζ β h (var i) = h i
bounded ζ β h (con z) = le_refl (nat_abs z)
bounded ζ β h (d ⊕ e) = le_trans (abs_add (in_whole ζ d) (in_whole ζ e)) (add-le-add (bounded ζ β h d) (bounded ζ β h e))
bounded ζ β h (d ⊖ e) =
    le_trans (abs_add (in_whole ζ d) (neg_ℤ (in_whole ζ e)))
    (add-le-add (bounded ζ β h d) (le_trans (le_of_eq (abs_neg (in_whole ζ e))) (bounded ζ β h e)))
bounded ζ β h (d ⊗ e) = abs_mul_le (in_whole ζ d) (in_whole ζ e) (bounded ζ β h d) (bounded ζ β h e)
bounded ζ β h (⊝ e) = le_trans (le_of_eq (abs_neg (in_whole ζ e))) (bounded ζ β h e)
