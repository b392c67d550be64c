-- Lists whose members all have a property, lists without repetition, and members of joined lists.
-- Assumes nothing.
use mathlib.Core.Path.{◌≡◌, refl, sym, ap, ap₂, ◌∙◌, subst}
use mathlib.Core.Logic.{◌≢◌, ◌⊎◌, inl, inr}
use mathlib.Core.List.Memᴰ
use mathlib.Core.List.{List, [], ◌∷◌, ◌++◌, map, Memᴰ}
use Prim.Native.Nat.{ℕ, zero, suc, ◌+◌, ◌*◌, ◌<◌, suc-le-suc}
use native.Mathlib.Nat.{zero-lt-suc, not-suc-le-zero, le_of_suc-le-suc, suc_inj, zero-mul, suc-mul, add_comm}
use native.Mathlib.Omega.{arith}
use lib.ListN.{length, get_or, take, length-append}
use Rattle.whole.specs.Order.{All, Distinct, joined}

-- ---- properties of all members
-- what holds of all members holds of each
pub all_at : {A : Type 0} (P : A → Type 0) {x : A} {l : List A} → All P l → Memᴰ x l → P x
all_at P h (Memᴰ.head e) = subst P (sym e) h.0
all_at P h (Memᴰ.tail m) = all_at P h.1 m

-- what holds of all members holds at each place
pub all_get_d : {A : Type 0} (P : A → Type 0) (l : List A) → All P l → (i : ℕ) (x : A) → i < length l → P (get_or l i x)
all_get_d P [] h i x k = absurd (not-suc-le-zero k)
all_get_d P (y ∷ l) h zero x k = h.0
all_get_d P (y ∷ l) h (suc i) x k = all_get_d P l h.1 i x (le_of_suc-le-suc k)

-- what holds of each member holds of all
pub all_of : {A : Type 0} (P : A → Type 0) (l : List A) → ((x : A) → Memᴰ x l → P x) → All P l
all_of P [] h = tt
all_of P (x ∷ l) h = (h x (Memᴰ.head refl), all_of P l (λ y m. h y (Memᴰ.tail m)))

-- what holds of all images, by the members
pub all_map : {A B : Type 0} (P : B → Type 0) (f : A → B) (l : List A) → All (λ x. P (f x)) l → All P (map f l)
all_map P f [] h = tt
all_map P f (x ∷ l) h = (h.0, all_map P f l h.1)

-- what holds of all members, by the images
pub all_of_map : {A B : Type 0} (P : B → Type 0) (Q : A → Type 0) (f : A → B) (l : List A) → ((x : A) → P (f x) → Q x) → All P (map f l) → All Q l
all_of_map P Q f [] g h = tt
all_of_map P Q f (x ∷ l) g h = (g x h.0, all_of_map P Q f l g h.1)

-- a member of the first k members is a member
pub take_in : {A : Type 0} {x : A} (k : ℕ) (l : List A) → Memᴰ x (take k l) → Memᴰ x l
take_in zero l i = absurd (Memᴰ.not-nil i)
take_in (suc k) [] i = i
take_in (suc k) (y ∷ l) (Memᴰ.head e) = Memᴰ.head e
take_in (suc k) (y ∷ l) (Memᴰ.tail i) = Memᴰ.tail (take_in k l i)

-- ---- lists without repetition
-- two lists without repetition that share no member, one after the other
pub distinct_append : {A : Type 0} (k l : List A) → Distinct k → Distinct l → ((x y : A) → Memᴰ x k → Memᴰ y l → x ≢ y) → Distinct (k ++ l)
distinct_append [] l g h apart = h
distinct_append (x ∷ k) l g h apart = (
  all_of (λ y. x ≢ y) (k ++ l) (λ y m. by_part y (Memᴰ.append_cases k m)),
  distinct_append k l g.1 h (λ y z m. apart y z (Memᴰ.tail m)),
)
  where
    by_part : (y : _) → Memᴰ y k ⊎ Memᴰ y l → x ≢ y
    by_part y (inl m) = all_at (λ z. x ≢ z) g.0 m
    by_part y (inr m) = apart x y (Memᴰ.head refl) m

-- the images of a list without repetition, under a function that takes no value twice
pub distinct_map : {A B : Type 0} (f : A → B) → ((x y : A) → f x ≡ f y → x ≡ y) → (l : List A) → Distinct l → Distinct (map f l)
distinct_map f inj [] h = tt
distinct_map f inj (x ∷ l) h =
    (all_map (λ y. f x ≢ y) f l (all_of (λ y. f x ≢ f y) l (λ y m e. all_at (λ z. x ≢ z) h.0 m (inj x y e))), distinct_map f inj l h.1)

-- a list whose images are without repetition
pub distinct_of_map : {A B : Type 0} (f : A → B) (l : List A) → Distinct (map f l) → Distinct l
distinct_of_map f [] h = tt
distinct_of_map f (x ∷ l) h = (all_of_map (λ y. f x ≢ y) (λ y. x ≢ y) f l (λ y apart e. apart (ap f e)) h.0, distinct_of_map f l h.1)

-- lists whose images are equal, under a function that takes no value twice
pub map_inj : {A B : Type 0} (f : A → B) → ((x y : A) → f x ≡ f y → x ≡ y) → (k l : List A) → map f k ≡ map f l → k ≡ l
map_inj f inj [] [] e = refl
map_inj f inj [] (y ∷ l) e = cc
map_inj f inj (x ∷ k) [] e = cc
map_inj {A} {B} f inj (x ∷ k) (y ∷ l) e = ap₂ (λ (z : A) (m : List A). z ∷ m) (inj x y (cc)) (map_inj f inj k l (cc))

-- ---- n lists joined
-- a member of the whole is a member of one
pub joined_cases : {A : Type 0} {x : A} (n : ℕ) (f : ℕ → List A) → Memᴰ x (joined n f) → (i : ℕ) × (i < n) × Memᴰ x (f i)
joined_cases zero f m = absurd (Memᴰ.not-nil m)
joined_cases {A} {x} (suc n) f m = by_part (joined_cases n (λ i. f (suc i))) (Memᴰ.append_cases (f 0) m)
  where
    by_part : (Memᴰ x (joined n (λ i. f (suc i))) → (i : ℕ) × (i < n) × Memᴰ x (f (suc i))) → Memᴰ x (f 0) ⊎ Memᴰ x (joined n (λ i. f (suc i)))
        → (i : ℕ) × (i < suc n) × Memᴰ x (f i)
    by_part later (inl k) = (0, zero-lt-suc n, k)
    by_part later (inr k) = let w = later k in (suc w.0, suc-le-suc w.1, w.2)

-- a member of one is a member of the whole
pub joined_in : {A : Type 0} {x : A} (n : ℕ) (f : ℕ → List A) (i : ℕ) → i < n → Memᴰ x (f i) → Memᴰ x (joined n f)
joined_in zero f i l m = absurd (not-suc-le-zero l)
joined_in (suc n) f zero l m = Memᴰ.append_left (joined n (λ j. f (suc j))) m
joined_in (suc n) f (suc i) l m = Memᴰ.append_right (f 0) (joined_in n (λ j. f (suc j)) i (le_of_suc-le-suc l) m)

-- n lists of the same length
pub length_joined : {A : Type 0} (n k : ℕ) (f : ℕ → List A) → ((i : ℕ) → length (f i) ≡ k) → length (joined n f) ≡ n * k
length_joined zero k f h = sym (zero-mul k)
length_joined (suc n) k f h =
    length-append (f 0) (joined n (λ i. f (suc i)))
    ∙ ap₂ (λ (u v : ℕ). u + v) (h 0) (length_joined n k (λ i. f (suc i)) (λ i. h (suc i)))
    ∙ add_comm k (n * k)
    ∙ sym (suc-mul n k)

-- lists without repetition of which no two share a member
pub distinct_joined : {A : Type 0} (n : ℕ) (f : ℕ → List A) → ((i : ℕ) → Distinct (f i)) → ((i j : ℕ) (x : A) → Memᴰ x (f i) → Memᴰ x (f j) → i ≡ j) → Distinct (joined n f)
distinct_joined zero f h apart = tt
distinct_joined {A} (suc n) f h apart =
    distinct_append (f 0) (joined n (λ i. f (suc i))) (h 0)
    (distinct_joined n (λ i. f (suc i)) (λ i. h (suc i)) (λ i j x k m. suc_inj (apart (suc i) (suc j) x k m)))
    (λ x y k m e. let w = joined_cases n (λ i. f (suc i)) m in let z = apart 0 (suc w.0) x k (Memᴰ.cast e w.2) in omega arith)
