-- The signed sum is 0 exactly if no matrix of whole numbers undoes the matrix but for a factor that is not 0. For every order.
-- Assumes nothing.
use mathlib.Core.Path.{◌≡◌, sym, ap, ap₂, ◌∙◌}
use mathlib.Core.List.{[], ◌∷◌}
use mathlib.Core.Logic.{◌≢◌}
use Prim.Native.Nat.{ℕ, zero, suc, ◌≤◌, ◌<◌, suc-le-suc}
use native.Mathlib.Nat.{le_of_suc-le-suc, zero-lt-suc, not-suc-le-zero}
use lib.IntN.{ℤ, pos, ◌+ℤ◌, ◌*ℤ◌, ◌-ℤ◌, neg_ℤ, *ℤ-zero, zero-*ℤ, +ℤ_idl}
use Rattle.whole.proofs.Ring.{mul_one, NonZero, zero_or_not, not_both, nonzero_mul}
use Rattle.whole.proofs.Parity.{parity_nonzero}
use Rattle.whole.proofs.Formula.{var, con, ◌⊕◌, ◌⊖◌, ◌⊗◌, ⊝, same, at}
use Rattle.whole.proofs.Sum.{sum_ext, sum_zero, sum_add, sum_mul, sum_swap, sum_skip, sum_δ}
use Rattle.whole.proofs.Expansion.{without, cofactor, signed_sum_zero}
use Rattle.whole.proofs.Adjugate.{adjugate, cofactors, adjugate_right}
use Rattle.whole.specs.Sum.{sum}
use Rattle.whole.specs.Matrix.{Matrix, δ, times, IsMultiple}
use Rattle.whole.specs.Order.{parity, skip, exact_signed_sum}
use Rattle.whole.specs.Claim.{ZeroExactlyIf}

-- all terms are 0, or one is not
find : {P : Type 0} (n : ℕ) (f : ℕ → ℤ) → (((i : ℕ) → i < n → f i ≡ pos 0) → P) → ((i : ℕ) → i < n → NonZero (f i) → P) → P
find zero f none some = none (λ i l. absurd (not-suc-le-zero l))
find (suc n) f none some =
    zero_or_not (f 0)
    (λ z. find n (λ i. f (suc i)) (λ rest. none (with_first z rest)) (λ i l. some (suc i) (suc-le-suc l)))
    (some 0 (zero-lt-suc n))
  where
    with_first : f 0 ≡ pos 0 → ((i : ℕ) → i < n → f (suc i) ≡ pos 0) → (i : ℕ) → i < suc n → f i ≡ pos 0
    with_first z rest zero l = z
    with_first z rest (suc i) l = rest i (le_of_suc-le-suc l)

-- m is undone by a but for the factor k, at the order n + 1; c is a column of m
module _ (n : ℕ) (m a : Matrix) (k : ℤ) (undone : IsMultiple (suc n) (times (suc n) m a) k) (c : ℕ) (h : c ≤ n) where
  -- what undoes m without its column c and its first row, made from a
  reduced : Matrix
  reduced = λ j l. a 0 c *ℤ a (suc j) (skip c l) -ℤ a 0 (skip c l) *ℤ a (suc j) c

  -- it does so but for the factor a 0 c * k
  reduced_undone : IsMultiple n (times n (without c 0 m) reduced) (a 0 c *ℤ k)
  unfolding reduced
  reduced_undone j i b d =
      sym (+ℤ_idl (sum n (λ l. term (skip c l))))
      ∙ ap (λ (z : ℤ). z +ℤ sum n (λ l. term (skip c l))) (sym (same (var 0 ⊗ (var 1 ⊗ var 2 ⊖ var 1 ⊗ var 2)) (con (pos 0)) tt (at (m c (suc i) ∷ a 0 c ∷ a (suc j) c ∷ []))))
      ∙ sym (sum_skip n c term h)
      ∙ sum_ext (suc n) (λ l _. same (var 0 ⊗ (var 1 ⊗ var 2 ⊖ var 3 ⊗ var 4)) (var 1 ⊗ (var 0 ⊗ var 2) ⊕ ⊝ (var 4) ⊗ (var 0 ⊗ var 3)) tt (at (m l (suc i) ∷ a 0 c ∷ a (suc j) l ∷ a 0 l ∷ a (suc j) c ∷ [])))
      ∙ sum_add (suc n) (λ l. a 0 c *ℤ (m l (suc i) *ℤ a (suc j) l)) (λ l. neg_ℤ (a (suc j) c) *ℤ (m l (suc i) *ℤ a 0 l))
      ∙ ap₂ (λ (u v : ℤ). u +ℤ v) (multiple (a 0 c) (suc j) (suc-le-suc b)) (multiple (neg_ℤ (a (suc j) c)) 0 (zero-lt-suc n))
      ∙ same (var 0 ⊗ (var 1 ⊗ var 2) ⊕ ⊝ (var 3) ⊗ (var 1 ⊗ con (pos 0))) (var 0 ⊗ var 1 ⊗ var 2) tt (at (a 0 c ∷ k ∷ δ j i ∷ a (suc j) c ∷ []))
    where
      term : ℕ → ℤ
      term = λ l. m l (suc i) *ℤ (a 0 c *ℤ a (suc j) l -ℤ a 0 l *ℤ a (suc j) c)

      multiple : (x : ℤ) (e : ℕ) → e < suc n → sum (suc n) (λ l. x *ℤ (m l (suc i) *ℤ a e l)) ≡ x *ℤ (k *ℤ δ e (suc i))
      multiple x e f = sym (sum_mul (suc n) x (λ l. m l (suc i) *ℤ a e l)) ∙ ap (λ (z : ℤ). x *ℤ z) (undone e (suc i) f (suc-le-suc d))

  -- Cramer's rule, for the first column of a
  cramer : exact_signed_sum (suc n) m *ℤ a 0 c ≡ cofactor n m c 0 *ℤ k
  cramer =
      sym (sum_δ (suc n) c (λ l. S *ℤ a 0 l) (suc-le-suc h))
      ∙ sum_ext (suc n) by_cofactors
      ∙ sum_swap (suc n) (suc n) (λ l r. K c r *ℤ (m l r *ℤ a 0 l))
      ∙ sum_ext (suc n) by_undone
      ∙ sum_δ (suc n) 0 (λ r. K c r *ℤ k) (zero-lt-suc n)
    where
      S : ℤ
      S = exact_signed_sum (suc n) m

      K : Matrix
      K = cofactor n m

      by_cofactors : (l : ℕ) → l < suc n → δ c l *ℤ (S *ℤ a 0 l) ≡ sum (suc n) (λ r. K c r *ℤ (m l r *ℤ a 0 l))
      by_cofactors l b =
          same (var 0 ⊗ (var 1 ⊗ var 2)) (var 2 ⊗ (var 1 ⊗ var 0)) tt (at (δ c l ∷ S ∷ a 0 l ∷ []))
          ∙ ap (λ (z : ℤ). a 0 l *ℤ z) (sym (cofactors n c l h (le_of_suc-le-suc b) m))
          ∙ sum_mul (suc n) (a 0 l) (λ r. m l r *ℤ K c r)
          ∙ sum_ext (suc n) (λ r _. same (var 0 ⊗ (var 1 ⊗ var 2)) (var 2 ⊗ (var 1 ⊗ var 0)) tt (at (a 0 l ∷ m l r ∷ K c r ∷ [])))

      by_undone : (r : ℕ) → r < suc n → sum (suc n) (λ l. K c r *ℤ (m l r *ℤ a 0 l)) ≡ δ 0 r *ℤ (K c r *ℤ k)
      by_undone r b =
          sym (sum_mul (suc n) (K c r) (λ l. m l r *ℤ a 0 l))
          ∙ ap (λ (z : ℤ). K c r *ℤ z) (undone 0 r (zero-lt-suc n) b)
          ∙ same (var 0 ⊗ (var 1 ⊗ var 2)) (var 2 ⊗ (var 0 ⊗ var 1)) tt (at (K c r ∷ k ∷ δ 0 r ∷ []))

  -- if a 0 c is not 0 and m without its column c and its first row has a signed sum that is not 0, so has m
  one_order_up : NonZero k → NonZero (a 0 c) → exact_signed_sum n (without c 0 m) ≢ pos 0 → exact_signed_sum (suc n) m ≢ pos 0
  one_order_up nz some below e =
      not_both (cofactor n m c 0 *ℤ k) (sym cramer ∙ ap (λ (z : ℤ). z *ℤ a 0 c) e ∙ zero-*ℤ (a 0 c))
      (nonzero_mul (cofactor n m c 0) k (nonzero_mul (parity c *ℤ pos 1) (exact_signed_sum n (without c 0 m)) (nonzero_mul (parity c) (pos 1) (parity_nonzero c) (zero-lt-suc 0)) minor) nz)
    where
      minor : NonZero (exact_signed_sum n (without c 0 m))
      minor = zero_or_not (exact_signed_sum n (without c 0 m)) (λ z. absurd (below z)) (λ d. d)

-- a matrix that is undone but for a factor that is not 0 has a signed sum that is not 0
pub undone_nonzero : (n : ℕ) (m a : Matrix) (k : ℤ) → IsMultiple n (times n m a) k → NonZero k → exact_signed_sum n m ≢ pos 0
undone_nonzero zero m a k undone nz e = not_both (pos 1) (sym (signed_sum_zero m) ∙ e) (zero-lt-suc 0)
undone_nonzero (suc n) m a k undone nz e =
    find (suc n) (a 0) no_column
    (λ c l some. let h = le_of_suc-le-suc l in one_order_up n m a k undone c h nz some (undone_nonzero n (without c 0 m) (reduced n m a k undone c h) (a 0 c *ℤ k) (reduced_undone n m a k undone c h) (nonzero_mul (a 0 c) k some nz)) e)
  where
    no_column : ((l : ℕ) → l < suc n → a 0 l ≡ pos 0) → ⊥
    no_column none =
        not_both k
        (sym (mul_one k)
        ∙ sym (undone 0 0 (zero-lt-suc n) (zero-lt-suc n))
        ∙ sum_zero (suc n) (λ l b. ap (λ (z : ℤ). m l 0 *ℤ z) (none l b) ∙ *ℤ-zero (m l 0)))
        nz

-- the signed sum is 0 exactly if no matrix a and no k that is not 0 have m·a = k·identity
pub singular : (n : ℕ) (m : Matrix) → ZeroExactlyIf n m
singular n m = (
  λ e u. zero_or_not u.1 (λ z. u.2 z) (λ nz. undone_nonzero n m u.0 u.1 u.3 nz e),
  λ none. zero_or_not (exact_signed_sum n m) (λ z. z) (λ nz. absurd (none (adjugate n m, exact_signed_sum n m, (λ z. not_both (exact_signed_sum n m) z nz), adjugate_right n m))),
)
