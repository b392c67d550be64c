-- Finite sums and products of whole numbers.
-- Assumes nothing.
use Rattle.std.specs.Prelude.{List, [], ◌∷◌, ℕ, zero, suc, ℤ, pos, ◌+ℤ◌, ◌*ℤ◌}

-- f 0 + f 1 + .. + f (n - 1)
unfoldable pub sum : ℕ → (ℕ → ℤ) → ℤ
sum zero f = pos 0
sum (suc n) f = f 0 +ℤ sum n (λ i. f (suc i))

-- f 0 * f 1 * .. * f (n - 1)
unfoldable pub product : ℕ → (ℕ → ℤ) → ℤ
product zero f = pos 1
product (suc n) f = f 0 *ℤ product n (λ i. f (suc i))

-- the sum of f over the members of a list
unfoldable pub sum_over : {A : Type 0} → (A → ℤ) → List A → ℤ
sum_over f [] = pos 0
sum_over f (x ∷ xs) = f x +ℤ sum_over f xs
