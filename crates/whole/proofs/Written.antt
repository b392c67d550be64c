-- The signed sum of a matrix of formulas, written as a formula: so any formula that multiplies out alike is the signed sum. For every order.
-- Assumes nothing.
use mathlib.Core.Path.{◌≡◌, refl, sym, ap, ap₂, ◌∙◌}
use Prim.Native.Nat.{ℕ, zero, suc, ◌+◌, ◌*◌, ◌/◌, ◌%◌, ◌≤◌, ◌<◌, suc-le-suc}
use lib.Dec.{T}
use lib.Arith.{digits_div, digits_mod}
use lib.IntN.{ℤ, pos, ◌+ℤ◌, ◌*ℤ◌}
use Rattle.whole.proofs.Formula.{Formula, var, con, ◌⊕◌, ◌⊗◌, in_whole, alike, same}
use Rattle.whole.proofs.Skip.{skip_le}
use Rattle.whole.proofs.Expansion.{without, cofactor, expansion_first, signed_sum_zero, signed_sum_ext}
use Rattle.whole.specs.Sum.{sum}
use Rattle.whole.specs.Matrix.{Matrix}
use Rattle.whole.specs.Order.{parity, skip, exact_signed_sum}

-- a finite sum of formulas
abbrev pub sum_formula : ℕ → (ℕ → Formula) → Formula
sum_formula zero f = con (pos 0)
sum_formula (suc n) f = f 0 ⊕ sum_formula n (λ i. f (suc i))

-- the signed sum of a matrix of formulas, by the first row
abbrev pub signed_formula : ℕ → (ℕ → ℕ → Formula) → Formula
signed_formula zero m = con (pos 1)
signed_formula (suc n) m = sum_formula (suc n) (λ c. con (parity c) ⊗ (m c 0 ⊗ signed_formula n (λ d s. m (skip c d) (suc s))))

-- the value of a sum of formulas
pub sum_formula_is : (n : ℕ) (f : ℕ → Formula) (g ζ : ℕ → ℤ) → ((i : ℕ) → in_whole ζ (f i) ≡ g i) → in_whole ζ (sum_formula n f) ≡ sum n g
unfolding sum
sum_formula_is zero f g ζ h = refl
sum_formula_is (suc n) f g ζ h = ap₂ (λ (u v : ℤ). u +ℤ v) (h 0) (sum_formula_is n (λ i. f (suc i)) (λ i. g (suc i)) ζ (λ i. h (suc i)))

-- the value of a signed sum of formulas
pub signed_formula_is : (n : ℕ) (m : ℕ → ℕ → Formula) (ζ : ℕ → ℤ) → in_whole ζ (signed_formula n m) ≡ exact_signed_sum n (λ c r. in_whole ζ (m c r))
signed_formula_is zero m ζ = sym (signed_sum_zero (λ c r. in_whole ζ (m c r)))
signed_formula_is (suc n) m ζ =
    sum_formula_is (suc n) (λ c. con (parity c) ⊗ (m c 0 ⊗ signed_formula n (λ d s. m (skip c d) (suc s)))) (λ c. parity c *ℤ (in_whole ζ (m c 0) *ℤ exact_signed_sum n (λ d s. in_whole ζ (m (skip c d) (suc s))))) ζ
    (λ c. ap (λ (z : ℤ). parity c *ℤ (in_whole ζ (m c 0) *ℤ z)) (signed_formula_is n (λ d s. m (skip c d) (suc s)) ζ))
    ∙ sym (expansion_first n (λ c r. in_whole ζ (m c r)))

-- a formula that multiplies out as the signed sum of a matrix of formulas does
pub written : (n : ℕ) (e : Formula) (m : ℕ → ℕ → Formula) → T (alike e (signed_formula n m)) → (ζ : ℕ → ℤ) → in_whole ζ e ≡ exact_signed_sum n (λ c r. in_whole ζ (m c r))
written n e m test ζ = same e (signed_formula n m) test ζ ∙ signed_formula_is n m ζ

-- ---- entries as variables, column after column
-- the entry of column c, row r at the order n is the variable c * n + r
abbrev pub entry : ℕ → ℕ → ℕ → Formula
entry n c r = var (c * n + r)

-- the variables' values in a matrix of the order n
abbrev pub entries : ℕ → Matrix → ℕ → ℤ
entries n m v = m (v / n) (v % n)

-- the variable of a place has the value of that place
pub entry_is : (n : ℕ) (m : Matrix) (c r : ℕ) → r < n → in_whole (entries n m) (entry n c r) ≡ m c r
entry_is n m c r h = ap₂ m (digits_div c h) (digits_mod c h)

-- a formula over the entries that multiplies out as the signed sum does is the signed sum
pub written_entries : (n : ℕ) (e : Formula) → T (alike e (signed_formula n (entry n))) → (m : Matrix) → in_whole (entries n m) e ≡ exact_signed_sum n m
written_entries n e test m =
    written n e (entry n) test (entries n m)
    ∙ signed_sum_ext n (λ c r. in_whole (entries n m) (entry n c r)) m (λ c r h l. entry_is n m c r l)

-- ---- minors and cofactors
-- the minor of column c, row r in a matrix of the order n + 1, over its entries
abbrev pub minor_formula : ℕ → ℕ → ℕ → Formula
minor_formula n c r = signed_formula n (λ d s. entry (suc n) (skip c d) (skip r s))

-- the value of that minor
pub minor_formula_is : (n c r : ℕ) → r ≤ n → (m : Matrix) → in_whole (entries (suc n) m) (minor_formula n c r) ≡ exact_signed_sum n (without c r m)
minor_formula_is n c r h m =
    signed_formula_is n (λ d s. entry (suc n) (skip c d) (skip r s)) (entries (suc n) m)
    ∙ signed_sum_ext n (λ d s. in_whole (entries (suc n) m) (entry (suc n) (skip c d) (skip r s))) (without c r m) (λ d s k l. entry_is (suc n) m (skip c d) (skip r s) (suc-le-suc (skip_le n r s h l)))

-- a formula that multiplies out as that minor does is the minor
pub written_minor : (n : ℕ) (e : Formula) (c r : ℕ) → r ≤ n → T (alike e (minor_formula n c r)) → (m : Matrix) → in_whole (entries (suc n) m) e ≡ exact_signed_sum n (without c r m)
written_minor n e c r h test m = same e (minor_formula n c r) test (entries (suc n) m) ∙ minor_formula_is n c r h m

-- a formula that multiplies out as a sign times that minor does is the cofactor
pub written_cofactor : (n : ℕ) (e : Formula) (c r : ℕ) → r ≤ n → T (alike e (con (parity c *ℤ parity r) ⊗ minor_formula n c r)) → (m : Matrix) → in_whole (entries (suc n) m) e ≡ cofactor n m c r
written_cofactor n e c r h test m =
    same e (con (parity c *ℤ parity r) ⊗ minor_formula n c r) test (entries (suc n) m)
    ∙ ap (λ (z : ℤ). parity c *ℤ parity r *ℤ z) (minor_formula_is n c r h m)
