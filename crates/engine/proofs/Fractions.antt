-- The engine's cofactors are the adjugate: over the signed sum they are the entries of the inverse, for every order above 0. And which floats are exactly a fraction.
-- Assumes nothing.
use Rattle.std.proofs.Common.{◌≡◌, ℕ, zero, suc, ◌-◌, ◌^◌, ◌<◌, ℤ, pos, ◌*ℤ◌, nat_abs, sym, ap, ◌∙◌, subst, ap₂, lt_irrefl, arith, pow_pos}
use mathlib.Core.Path.{fun_ext}
use lib.Ieee.{Float}
use Rattle.whole.specs.Matrix.{Matrix, times, IsMultiple}
use Rattle.whole.specs.Order.{parity, exact_signed_sum}
use Rattle.whole.proofs.Ring.{mul_cancel}
use Rattle.whole.proofs.Expansion.{without}
use Rattle.whole.proofs.Adjugate.{adjugate, adjugate_left, adjugate_right}
use Rattle.exact.specs.Value.{Exact, Equal}
use Rattle.exact.proofs.Signed.{sign_of, sign_times}
use Rattle.exact.proofs.Value.{sorted}
use Rattle.exact.proofs.Compare.{exact_equal}
use Rattle.engine.specs.Engine.{cofactor_of, CofactorsOverSum}
use Rattle.engine.specs.Demand.{ExactFraction}

-- ---- the cofactors

-- the cofactors, columns and rows exchanged, are the adjugate
cofactors_adjugate : (n : ℕ) (m : Matrix) → adjugate (suc n) m ≡ (λ (c r : ℕ). cofactor_of (suc n) m r c)
cofactors_adjugate n m =
    let less : n ≡ suc n - 1 = omega arith in
    fun_ext (λ c. fun_ext (λ r. ap (λ (k : ℕ). parity r *ℤ parity c *ℤ exact_signed_sum k (without r c m)) less))

-- entry by entry, for every order above 0
pub adjugate_cofactor : (n : ℕ) → 0 < n → (m : Matrix) (c r : ℕ) → adjugate n m c r ≡ cofactor_of n m r c
adjugate_cofactor zero some m c r = absurd (lt_irrefl 0 some)
adjugate_cofactor (suc n) some m c r = ap (λ (a : Matrix). a c r) (cofactors_adjugate n m)

-- so their products with the matrix are the sum times the identity
pub cofactors_over_sum : (n : ℕ) → 0 < n → (m : Matrix) → CofactorsOverSum n m
cofactors_over_sum zero some m = absurd (lt_irrefl 0 some)
cofactors_over_sum (suc n) some m = (
  subst (λ (a : Matrix). IsMultiple (suc n) (times (suc n) m a) (exact_signed_sum (suc n) m)) (cofactors_adjugate n m) (adjugate_right (suc n) m),
  subst (λ (a : Matrix). IsMultiple (suc n) (times (suc n) a m) (exact_signed_sum (suc n) m)) (cofactors_adjugate n m) (adjugate_left (suc n) m),
)

-- ---- floats that are exactly a fraction

-- where b is plus or minus 2 ^ k, its sign times a, over 2 ^ k, is the fraction a / b
pub fraction : {x : Float} {a b c : ℤ} {k : ℕ} → nat_abs b ≡ 2 ^ k → Exact x (sign_of b *ℤ a) k → a ≡ c → ExactFraction x c b
fraction {a = a} {b = b} {k = k} power exact is =
    let factors : sign_of b *ℤ a *ℤ b ≡ a *ℤ (sign_of b *ℤ b) = simp sorted in
    record {
      z = sign_of b *ℤ a;
      k = k;
      exact = exact;
      divisor = subst (λ (j : ℕ). 0 < j) (sym power) (pow_pos k);
      across = factors ∙ ap₂ (λ (u v : ℤ). u *ℤ v) is (sign_times b ∙ ap pos power);
    }

-- a fraction has one value: two floats that are exactly a / b are numerically equal
pub one_value : {x y : Float} {a b : ℤ} → ExactFraction x a b → ExactFraction y a b → Equal x y
one_value {a = a} {b = b} g h =
    let J = pos (2 ^ g.k) in
    let K = pos (2 ^ h.k) in
    let to-a : g.z *ℤ K *ℤ b ≡ g.z *ℤ b *ℤ K = simp sorted in
    let turned : a *ℤ J *ℤ K ≡ a *ℤ K *ℤ J = simp sorted in
    let from-a : h.z *ℤ b *ℤ J ≡ h.z *ℤ J *ℤ b = simp sorted in
    (exact_equal g.exact h.exact).1
    (mul_cancel (g.z *ℤ K) (h.z *ℤ J) b g.divisor
    (to-a ∙ ap (λ (w : ℤ). w *ℤ K) g.across ∙ turned ∙ ap (λ (w : ℤ). w *ℤ J) (sym h.across) ∙ from-a))
