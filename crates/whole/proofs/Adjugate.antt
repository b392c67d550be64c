-- The adjugate: times the matrix, on either side, it is the signed sum times the identity. For every order.
-- Assumes nothing.
use mathlib.Core.Path.{◌≡◌, refl, sym, ap, ap₂, ◌∙◌, fun_ext}
use Prim.Native.Nat.{ℕ, zero, suc, ◌≤◌, ◌<◌}
use native.Mathlib.Nat.{le_of_suc-le-suc, not-suc-le-zero}
use lib.IntN.{ℤ, pos, ◌*ℤ◌, *ℤ_comm, *ℤ-zero}
use Rattle.whole.proofs.Ring.{mul_one}
use Rattle.whole.proofs.Skip.{skip_lt, Place, here, there, place}
use Rattle.whole.proofs.Sum.{sum_ext, δ_same, δ_skip, δ_flip}
use Rattle.whole.proofs.Expansion.{cofactor, expansion_column, transpose, signed_sum_transpose, cofactor_transpose, twins}
use Rattle.whole.specs.Sum.{sum}
use Rattle.whole.specs.Matrix.{Matrix, δ, times, IsMultiple}
use Rattle.whole.specs.Order.{parity, skip, exact_signed_sum}

-- the adjugate of a matrix of the order n: the cofactors, transposed
abbrev pub adjugate : ℕ → Matrix → Matrix
adjugate zero m = δ
adjugate (suc n) m = transpose (cofactor n m)

-- ---- a column times the cofactors of another
-- m with the column v in the place of the column c
abbrev replaced : ℕ → (ℕ → ℤ) → Matrix → Matrix
replaced zero v m zero = v
replaced zero v m (suc d) = m (suc d)
replaced (suc c) v m zero = m 0
replaced (suc c) v m (suc d) = replaced c v (λ e. m (suc e)) d

-- the column c is the new one
replaced_same : (c : ℕ) (v : ℕ → ℤ) (m : Matrix) → replaced c v m c ≡ v
replaced_same zero v m = refl
replaced_same (suc c) v m = replaced_same c v (λ e. m (suc e))

-- the other columns are the old ones
replaced_skip : (c : ℕ) (v : ℕ → ℤ) (m : Matrix) (d : ℕ) → replaced c v m (skip c d) ≡ m (skip c d)
replaced_skip zero v m d = refl
replaced_skip (suc c) v m zero = refl
replaced_skip (suc c) v m (suc d) = replaced_skip c v (λ e. m (suc e)) d

-- the cofactors of the column c do not look at the column c
cofactor_replaced : (n c : ℕ) (v : ℕ → ℤ) (m : Matrix) (r : ℕ) → cofactor n (replaced c v m) c r ≡ cofactor n m c r
cofactor_replaced n c v m r =
    ap (λ (W : Matrix). parity c *ℤ parity r *ℤ exact_signed_sum n W) (fun_ext (λ d. fun_ext (λ s. ap (λ (f : ℕ → ℤ). f (skip r s)) (replaced_skip c v m d))))

-- another column times the cofactors of the column c: as if two columns were equal
pub cofactors_other : (n c j : ℕ) → c ≤ n → j < n → (m : Matrix) → sum (suc n) (λ r. m (skip c j) r *ℤ cofactor n m c r) ≡ pos 0
cofactors_other n c j h l m =
    let v : ℕ → ℤ = m (skip c j) in
    let M : Matrix = replaced c v m in
    sum_ext (suc n) (λ r k. ap₂ (λ (x y : ℤ). x *ℤ y) (sym (ap (λ (f : ℕ → ℤ). f r) (replaced_same c v m))) (sym (cofactor_replaced n c v m r)))
    ∙ sym (expansion_column n c h M)
    ∙ twins n c j h l M (λ r. ap (λ (f : ℕ → ℤ). f r) (replaced_same c v m ∙ sym (replaced_skip c v m j)))

-- the column d times the cofactors of the column c: the signed sum if c is d, and else 0
pub cofactors : (n c d : ℕ) → c ≤ n → d ≤ n → (m : Matrix) → sum (suc n) (λ r. m d r *ℤ cofactor n m c r) ≡ exact_signed_sum (suc n) m *ℤ δ c d
cofactors n c d h l m = by_place (place c d) l
  where
    by_place : {d : ℕ} → Place c d → d ≤ n → sum (suc n) (λ r. m d r *ℤ cofactor n m c r) ≡ exact_signed_sum (suc n) m *ℤ δ c d
    by_place here l = sym (expansion_column n c h m) ∙ sym (mul_one (exact_signed_sum (suc n) m)) ∙ ap (λ (z : ℤ). exact_signed_sum (suc n) m *ℤ z) (sym (δ_same c))
    by_place (there j) l =
        cofactors_other n c j h (skip_lt n c j h l) m
        ∙ sym (*ℤ-zero (exact_signed_sum (suc n) m))
        ∙ ap (λ (z : ℤ). exact_signed_sum (suc n) m *ℤ z) (sym (δ_skip c j))

-- ---- both ways round
-- adjugate·m is the signed sum times the identity
pub adjugate_left : (n : ℕ) (m : Matrix) → IsMultiple n (times n (adjugate n m) m) (exact_signed_sum n m)
adjugate_left zero m c r h l = absurd (not-suc-le-zero h)
adjugate_left (suc n) m c r h l =
    sum_ext (suc n) (λ k _. *ℤ_comm (cofactor n m r k) (m c k))
    ∙ cofactors n r c (le_of_suc-le-suc l) (le_of_suc-le-suc h) m
    ∙ ap (λ (z : ℤ). exact_signed_sum (suc n) m *ℤ z) (δ_flip r c)

-- m·adjugate is the signed sum times the identity
pub adjugate_right : (n : ℕ) (m : Matrix) → IsMultiple n (times n m (adjugate n m)) (exact_signed_sum n m)
adjugate_right zero m c r h l = absurd (not-suc-le-zero h)
adjugate_right (suc n) m c r h l =
    sum_ext (suc n) (λ k _. ap (λ (z : ℤ). m k r *ℤ z) (sym (cofactor_transpose n m c k)))
    ∙ cofactors n c r (le_of_suc-le-suc h) (le_of_suc-le-suc l) (transpose m)
    ∙ ap (λ (z : ℤ). z *ℤ δ c r) (sym (signed_sum_transpose (suc n) m))
