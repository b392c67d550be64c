-- Where the signed sum is a unit times p: the unit times the adjugate undoes the matrix but for the factor p, both ways round, and brings a moved vector back. For every order.
-- Assumes nothing.
use mathlib.Core.Path.{◌≡◌, sym, ap, ◌∙◌}
use mathlib.Core.List.{[], ◌∷◌}
use Prim.Native.Nat.{ℕ, ◌<◌}
use lib.IntN.{ℤ, pos, ◌*ℤ◌}
use Rattle.whole.proofs.Ring.{*ℤ-assoc, *ℤ-left-comm, one_mul}
use Rattle.whole.proofs.Formula.{var, ◌⊗◌, same, at}
use Rattle.whole.proofs.Sum.{sum_ext, sum_mul, sum_swap, sum_δ, δ_flip}
use Rattle.whole.proofs.Adjugate.{adjugate, adjugate_left, adjugate_right}
use Rattle.whole.specs.Sum.{sum}
use Rattle.whole.specs.Matrix.{Matrix, δ, times, IsMultiple}
use Rattle.whole.specs.Order.{exact_signed_sum}

-- ---- the inverse, times p
-- u times the adjugate
abbrev pub numerators : ℕ → ℤ → Matrix → Matrix
numerators n u m = λ c r. u *ℤ adjugate n m c r

-- a matrix whose signed sum is the unit u times p
module _ (n : ℕ) (m : Matrix) (u p : ℤ) (unit : u *ℤ u ≡ pos 1) (is : exact_signed_sum n m ≡ u *ℤ p) where
  -- the unit cancels
  scaled : (e : ℤ) → u *ℤ (exact_signed_sum n m *ℤ e) ≡ p *ℤ e
  scaled e =
      ap (λ (z : ℤ). u *ℤ (z *ℤ e)) is
      ∙ same (var 0 ⊗ (var 0 ⊗ var 1 ⊗ var 2)) (var 0 ⊗ var 0 ⊗ (var 1 ⊗ var 2)) tt (at (u ∷ p ∷ e ∷ []))
      ∙ ap (λ (z : ℤ). z *ℤ (p *ℤ e)) unit
      ∙ one_mul (p *ℤ e)

  -- m·numerators is p·identity
  pub numerators_right : IsMultiple n (times n m (numerators n u m)) p
  numerators_right c r h l =
      sum_ext n (λ k _. *ℤ-left-comm (m k r) u (adjugate n m c k))
      ∙ sym (sum_mul n u (λ k. m k r *ℤ adjugate n m c k))
      ∙ ap (λ (z : ℤ). u *ℤ z) (adjugate_right n m c r h l)
      ∙ scaled (δ c r)

  -- numerators·m is p·identity
  pub numerators_left : IsMultiple n (times n (numerators n u m) m) p
  numerators_left c r h l =
      sum_ext n (λ k _. *ℤ-assoc u (adjugate n m k r) (m c k))
      ∙ sym (sum_mul n u (λ k. adjugate n m k r *ℤ m c k))
      ∙ ap (λ (z : ℤ). u *ℤ z) (adjugate_left n m c r h l)
      ∙ scaled (δ c r)

-- ---- there and back
-- m times a vector, at the order n
abbrev pub moved : ℕ → Matrix → (ℕ → ℤ) → ℕ → ℤ
moved n m q = λ r. sum n (λ c. m c r *ℤ q c)

-- what undoes m but for the factor p brings a moved vector back but for the factor p
pub there_and_back : (n : ℕ) (a m : Matrix) (p : ℤ) → IsMultiple n (times n a m) p → (q : ℕ → ℤ) (r : ℕ) → r < n → moved n a (moved n m q) r ≡ p *ℤ q r
there_and_back n a m p undone q r h =
    sum_ext n (λ k _. sum_mul n (a k r) (λ c. m c k *ℤ q c))
    ∙ sum_swap n n (λ k c. a k r *ℤ (m c k *ℤ q c))
    ∙ sum_ext n by_column
    ∙ sum_δ n r (λ c. p *ℤ q c) h
  where
    by_column : (c : ℕ) → c < n → sum n (λ k. a k r *ℤ (m c k *ℤ q c)) ≡ δ r c *ℤ (p *ℤ q c)
    by_column c l =
        sum_ext n (λ k _. same (var 0 ⊗ (var 1 ⊗ var 2)) (var 2 ⊗ (var 0 ⊗ var 1)) tt (at (a k r ∷ m c k ∷ q c ∷ [])))
        ∙ sym (sum_mul n (q c) (λ k. a k r *ℤ m c k))
        ∙ ap (λ (z : ℤ). q c *ℤ z) (undone c r l h ∙ ap (λ (z : ℤ). p *ℤ z) (δ_flip c r))
        ∙ same (var 0 ⊗ (var 1 ⊗ var 2)) (var 2 ⊗ (var 1 ⊗ var 0)) tt (at (q c ∷ p ∷ δ r c ∷ []))
