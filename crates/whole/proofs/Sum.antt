-- Laws of finite sums of whole numbers.
-- Assumes nothing.
use mathlib.Core.Path.{◌≡◌, refl, sym, ap, ap₂, ◌∙◌}
use mathlib.Core.List.{List, [], ◌∷◌, ◌++◌, map, Memᴰ}
use Prim.Native.Nat.{ℕ, zero, suc, ◌+◌, ◌*◌, ◌^◌, ◌≤◌, ◌<◌, zero-le, suc-le-suc}
use native.Mathlib.Nat.{le_of_suc-le-suc, zero-lt-suc, not-suc-le-zero, le_trans, le_of_eq, add-le-add, suc-mul, add_comm, pow-zero, pow-succ'}
use lib.ListN.{length}
use lib.IntN.{ℤ, pos, nat_abs, ◌+ℤ◌, ◌*ℤ◌, *ℤ-zero, zero-*ℤ, +ℤ_idl, +ℤ_idr, +ℤ_assoc}
use Rattle.whole.proofs.Ring.{one_mul, +ℤ-left-comm, mul_add, abs_add, abs_mul_le}
use Rattle.whole.specs.Sum.{sum, product, sum_over}
use Rattle.whole.specs.Matrix.{δ}
use Rattle.whole.specs.Order.{skip, joined}

-- ---- sums over the numbers below n
-- sums of equal terms are equal
pub sum_ext : (n : ℕ) {f g : ℕ → ℤ} → ((i : ℕ) → i < n → f i ≡ g i) → sum n f ≡ sum n g
unfolding sum
sum_ext zero h = refl
sum_ext (suc n) h = ap₂ (λ (u v : ℤ). u +ℤ v) (h 0 (zero-lt-suc n)) (sum_ext n (λ i l. h (suc i) (suc-le-suc l)))

-- a sum of zeros is zero
pub sum_zero : (n : ℕ) {f : ℕ → ℤ} → ((i : ℕ) → i < n → f i ≡ pos 0) → sum n f ≡ pos 0
unfolding sum
sum_zero zero h = refl
sum_zero (suc n) h = ap₂ (λ (u v : ℤ). u +ℤ v) (h 0 (zero-lt-suc n)) (sum_zero n (λ i l. h (suc i) (suc-le-suc l)))

-- a sum of sums of two
pub sum_add : (n : ℕ) (f g : ℕ → ℤ) → sum n (λ i. f i +ℤ g i) ≡ sum n f +ℤ sum n g
unfolding sum
sum_add zero f g = refl
sum_add (suc n) f g =
    ap (λ (z : ℤ). (f 0 +ℤ g 0) +ℤ z) (sum_add n (λ i. f (suc i)) (λ i. g (suc i)))
    ∙ swap_inner (f 0) (g 0) (sum n (λ i. f (suc i))) (sum n (λ i. g (suc i)))
  where
    swap_inner : (a b c d : ℤ) → (a +ℤ b) +ℤ (c +ℤ d) ≡ (a +ℤ c) +ℤ (b +ℤ d)
    swap_inner a b c d = simp (+ℤ_assoc, +ℤ-left-comm)

-- a factor goes into a sum
pub sum_mul : (n : ℕ) (a : ℤ) (f : ℕ → ℤ) → a *ℤ sum n f ≡ sum n (λ i. a *ℤ f i)
unfolding sum
sum_mul zero a f = *ℤ-zero a
sum_mul (suc n) a f = mul_add a (f 0) (sum n (λ i. f (suc i))) ∙ ap (λ (z : ℤ). a *ℤ f 0 +ℤ z) (sum_mul n a (λ i. f (suc i)))

-- the two sums of a double sum change places
pub sum_swap : (n m : ℕ) (f : ℕ → ℕ → ℤ) → sum n (λ i. sum m (λ j. f i j)) ≡ sum m (λ j. sum n (λ i. f i j))
unfolding sum
sum_swap zero m f = sym (sum_zero m (λ j l. refl))
sum_swap (suc n) m f =
    ap (λ (z : ℤ). sum m (λ j. f 0 j) +ℤ z) (sum_swap n m (λ i j. f (suc i) j))
    ∙ sym (sum_add m (λ j. f 0 j) (λ j. sum n (λ i. f (suc i) j)))

-- the last term of a sum
pub sum_last : (n : ℕ) (f : ℕ → ℤ) → sum (suc n) f ≡ sum n f +ℤ f n
unfolding sum
sum_last zero f = +ℤ_idr (f 0) ∙ sym (+ℤ_idl (f 0))
sum_last (suc n) f =
    ap (λ (z : ℤ). f 0 +ℤ z) (sum_last n (λ i. f (suc i))) ∙ sym (+ℤ_assoc (f 0) (sum n (λ i. f (suc i))) (f (suc n)))

-- the term c of a sum, and the others
pub sum_skip : (n c : ℕ) (f : ℕ → ℤ) → c ≤ n → sum (suc n) f ≡ f c +ℤ sum n (λ j. f (skip c j))
unfolding sum
sum_skip n zero f h = refl
sum_skip zero (suc c) f h = absurd (not-suc-le-zero h)
sum_skip (suc n) (suc c) f h =
    ap (λ (z : ℤ). f 0 +ℤ z) (sum_skip n c (λ i. f (suc i)) (le_of_suc-le-suc h))
    ∙ +ℤ-left-comm (f 0) (f (suc c)) (sum n (λ j. f (suc (skip c j))))

-- ---- sums with the identity
-- the identity at equal numbers
pub δ_same : (c : ℕ) → δ c c ≡ pos 1
δ_same zero = refl
δ_same (suc c) = δ_same c

-- the identity at different numbers
pub δ_skip : (c j : ℕ) → δ c (skip c j) ≡ pos 0
δ_skip zero j = refl
δ_skip (suc c) zero = refl
δ_skip (suc c) (suc j) = δ_skip c j

-- the identity is its own transpose
pub δ_flip : (c r : ℕ) → δ c r ≡ δ r c
δ_flip zero zero = refl
δ_flip zero (suc r) = refl
δ_flip (suc c) zero = refl
δ_flip (suc c) (suc r) = δ_flip c r

-- the identity picks one term of a sum
pub sum_δ : (n c : ℕ) (f : ℕ → ℤ) → c < n → sum n (λ k. δ c k *ℤ f k) ≡ f c
sum_δ zero c f h = absurd (not-suc-le-zero h)
sum_δ (suc n) c f h =
    sum_skip n c (λ k. δ c k *ℤ f k) (le_of_suc-le-suc h)
    ∙ ap₂ (λ (u v : ℤ). u +ℤ v)
    (ap (λ (z : ℤ). z *ℤ f c) (δ_same c) ∙ one_mul (f c))
    (sum_zero n (λ j l. ap (λ (z : ℤ). z *ℤ f (skip c j)) (δ_skip c j) ∙ zero-*ℤ (f (skip c j))))
    ∙ +ℤ_idr (f c)

-- ---- sums over a list
-- sums of terms that are equal at the members are equal
pub sum_over_ext : {A : Type 0} (l : List A) {f g : A → ℤ} → ((x : A) → Memᴰ x l → f x ≡ g x) → sum_over f l ≡ sum_over g l
unfolding sum_over
sum_over_ext [] h = refl
sum_over_ext (x ∷ l) h = ap₂ (λ (u v : ℤ). u +ℤ v) (h x (Memᴰ.head refl)) (sum_over_ext l (λ y m. h y (Memᴰ.tail m)))

-- a sum over two lists joined
pub sum_over_append : {A : Type 0} (f : A → ℤ) (k l : List A) → sum_over f (k ++ l) ≡ sum_over f k +ℤ sum_over f l
unfolding sum_over
sum_over_append f [] l = sym (+ℤ_idl (sum_over f l))
sum_over_append f (x ∷ k) l = ap (λ (z : ℤ). f x +ℤ z) (sum_over_append f k l) ∙ sym (+ℤ_assoc (f x) (sum_over f k) (sum_over f l))

-- a sum over a list of images
pub sum_over_map : {A B : Type 0} (f : B → ℤ) (g : A → B) (l : List A) → sum_over f (map g l) ≡ sum_over (λ x. f (g x)) l
unfolding sum_over
sum_over_map f g [] = refl
sum_over_map f g (x ∷ l) = ap (λ (z : ℤ). f (g x) +ℤ z) (sum_over_map f g l)

-- a factor goes into a sum over a list
pub sum_over_mul : {A : Type 0} (a : ℤ) (f : A → ℤ) (l : List A) → a *ℤ sum_over f l ≡ sum_over (λ x. a *ℤ f x) l
unfolding sum_over
sum_over_mul a f [] = *ℤ-zero a
sum_over_mul a f (x ∷ l) = mul_add a (f x) (sum_over f l) ∙ ap (λ (z : ℤ). a *ℤ f x +ℤ z) (sum_over_mul a f l)

-- a sum over n lists joined
pub sum_over_joined : {A : Type 0} (f : A → ℤ) (n : ℕ) (g : ℕ → List A) → sum_over f (joined n g) ≡ sum n (λ i. sum_over f (g i))
unfolding sum_over sum
sum_over_joined f zero g = refl
sum_over_joined f (suc n) g =
    sum_over_append f (g 0) (joined n (λ i. g (suc i)))
    ∙ ap (λ (z : ℤ). sum_over f (g 0) +ℤ z) (sum_over_joined f n (λ i. g (suc i)))

-- ---- magnitudes
-- n terms and one more
one_more : (n b : ℕ) → b + n * b ≤ suc n * b
one_more n b = le_of_eq (add_comm b (n * b) ∙ sym (suc-mul n b))

-- n terms of magnitude at most b
pub sum_le : (n b : ℕ) (f : ℕ → ℤ) → ((i : ℕ) → i < n → nat_abs (f i) ≤ b) → nat_abs (sum n f) ≤ n * b
unfolding sum
sum_le zero b f h = zero-le
sum_le (suc n) b f h =
    le_trans (abs_add (f 0) (sum n (λ i. f (suc i))))
    (le_trans (add-le-add (h 0 (zero-lt-suc n)) (sum_le n b (λ i. f (suc i)) (λ i l. h (suc i) (suc-le-suc l))))
    (one_more n b))

-- the members of a list, each of magnitude at most b
pub sum_over_le : {A : Type 0} (b : ℕ) (f : A → ℤ) (l : List A) → ((x : A) → Memᴰ x l → nat_abs (f x) ≤ b) → nat_abs (sum_over f l) ≤ length l * b
unfolding sum_over
sum_over_le b f [] h = zero-le
sum_over_le b f (x ∷ l) h =
    le_trans (abs_add (f x) (sum_over f l))
    (le_trans (add-le-add (h x (Memᴰ.head refl)) (sum_over_le b f l (λ y m. h y (Memᴰ.tail m))))
    (one_more (length l) b))

-- n factors of magnitude at most b
pub product_le : (n b : ℕ) (f : ℕ → ℤ) → ((i : ℕ) → i < n → nat_abs (f i) ≤ b) → nat_abs (product n f) ≤ b ^ n
unfolding product
product_le zero b f h = le_of_eq (sym (pow-zero b))
product_le (suc n) b f h =
    le_trans (abs_mul_le (f 0) (product n (λ i. f (suc i))) (h 0 (zero-lt-suc n)) (product_le n b (λ i. f (suc i)) (λ i l. h (suc i) (suc-le-suc l))))
    (le_of_eq (sym (pow-succ' b n)))
