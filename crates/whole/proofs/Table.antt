-- One test for a table of orders with their signs, and what a table that passes holds: each order of n columns once, with its right sign. So its sum is the signed sum.
-- Assumes nothing.
use mathlib.Core.Path.{◌≡◌, refl, sym, ap, ap₂, ◌∙◌, subst}
use mathlib.Core.Logic.{◌≢◌, ◌⊎◌, inl, inr}
use mathlib.Core.Bool.{Bool, true, false, ◌&&◌}
use mathlib.Core.List.Memᴰ
use mathlib.Core.List.{List, [], ◌∷◌, map, Memᴰ}
use Prim.Native.Nat.{ℕ, zero, suc, ◌≤◌, ◌<◌}
use native.Mathlib.Nat.{le_of_suc-le-suc, eq-or-lt_of_le}
use lib.Arith.{le-zero}
use lib.Dec.{T, eqb, eqb→eq}
use lib.Ieee.Fits.{and_l, and_r}
use lib.IntN.{ℤ, ◌+ℤ◌, ◌*ℤ◌, ◌-ℤ◌, nat_abs}
use Rattle.whole.proofs.Ring.{+ℤ-left-comm, abs_zero, sub_zero_eq}
use Rattle.whole.proofs.Formula.{equal, equal→eq}
use Rattle.whole.proofs.Lists.{all_at, all_of}
use Rattle.whole.proofs.Sum.{sum_over_map}
use Rattle.whole.proofs.Orders.{orders_listed}
use Rattle.whole.specs.Sum.{sum_over}
use Rattle.whole.specs.Matrix.{Matrix}
use Rattle.whole.specs.Order.{All, Distinct, sign, down_rows, orders, exact_signed_sum}
use Rattle.whole.specs.Claim.{ListsOrders, Table, columns, part, table_sum, RightSign, HoldsOrders}

-- ---- rearranged lists
-- l is the list with x taken out of k, at one place
data Takes {A : Type 0} (x : A) : List A → List A → Type 0 where
  first : {l : List A} → Takes x (x ∷ l) l
  later : {y : A} {k l : List A} → Takes x k l → Takes x (y ∷ k) (y ∷ l)

-- k has the members of l, each as often, in any order
data Rearranged {A : Type 0} : List A → List A → Type 0 where
  none : Rearranged [] []
  more : {x : A} {l k rest : List A} → Takes x k rest → Rearranged l rest → Rearranged (x ∷ l) k

-- lists of any kind
module _ {A : Type 0} where
  -- what is taken out was there
  takes_in : {x : A} {k l : List A} → Takes x k l → Memᴰ x k
  takes_in first = Memᴰ.head refl
  takes_in (later w) = Memᴰ.tail (takes_in w)

  -- what is left was there
  takes_rest : {x y : A} {k l : List A} → Takes x k l → Memᴰ y l → Memᴰ y k
  takes_rest first i = Memᴰ.tail i
  takes_rest (later w) (Memᴰ.head e) = Memᴰ.head e
  takes_rest (later w) (Memᴰ.tail i) = Memᴰ.tail (takes_rest w i)

  -- what was there is taken out or left
  takes_cases : {x y : A} {k l : List A} → Takes x k l → Memᴰ y k → (y ≡ x) ⊎ Memᴰ y l
  takes_cases first (Memᴰ.head e) = inl e
  takes_cases first (Memᴰ.tail i) = inr i
  takes_cases (later w) (Memᴰ.head e) = inr (Memᴰ.head e)
  takes_cases {x} {y} (later {y = z} {l = l} w) (Memᴰ.tail i) = down (takes_cases w i)
    where
      down : (y ≡ x) ⊎ Memᴰ y l → (y ≡ x) ⊎ Memᴰ y (z ∷ l)
      down (inl e) = inl e
      down (inr j) = inr (Memᴰ.tail j)

  -- a list repeats nothing if what is put back is new
  takes_distinct : {x : A} {k l : List A} → Takes x k l → All (λ y. x ≢ y) l → Distinct l → Distinct k
  takes_distinct first apart h = (apart, h)
  takes_distinct {x} (later {y = y} {k = k} {l = l} w) apart h = (all_of (λ z. y ≢ z) k (λ z i. by_case z (takes_cases w i)), takes_distinct w apart.1 h.1)
    where
      by_case : (z : A) → (z ≡ x) ⊎ Memᴰ z l → y ≢ z
      by_case z (inl e) q = apart.0 (sym (q ∙ e))
      by_case z (inr i) q = all_at (λ v. y ≢ v) h.0 i q

  -- what is taken out is taken off the sum
  takes_sum : (f : A → ℤ) {x : A} {k l : List A} → Takes x k l → sum_over f k ≡ f x +ℤ sum_over f l
  unfolding sum_over
  takes_sum f first = refl
  takes_sum f {x} (later {y = y} {l = l} w) = ap (λ (z : ℤ). f y +ℤ z) (takes_sum f w) ∙ +ℤ-left-comm (f y) (f x) (sum_over f l)

  -- a rearranged list has the same members
  rearranged_in : {x : A} {l k : List A} → Rearranged l k → Memᴰ x l → Memᴰ x k
  rearranged_in none i = absurd (Memᴰ.not-nil i)
  rearranged_in {x} (more {k = k} w p) (Memᴰ.head e) = Memᴰ.cast e (takes_in w)
  rearranged_in (more w p) (Memᴰ.tail i) = takes_rest w (rearranged_in p i)

  -- and no others
  rearranged_of : {x : A} {l k : List A} → Rearranged l k → Memᴰ x k → Memᴰ x l
  rearranged_of none i = absurd (Memᴰ.not-nil i)
  rearranged_of {x} (more {x = y} {l = l} {rest = rest} w p) i = by_case (rearranged_of p) (takes_cases w i)
    where
      by_case : (Memᴰ x rest → Memᴰ x l) → (x ≡ y) ⊎ Memᴰ x rest → Memᴰ x (y ∷ l)
      by_case below (inl e) = Memᴰ.head e
      by_case below (inr j) = Memᴰ.tail (below j)

  -- it repeats nothing if the list repeats nothing
  rearranged_distinct : {l k : List A} → Rearranged l k → Distinct l → Distinct k
  rearranged_distinct none h = tt
  rearranged_distinct (more {x = x} {rest = rest} w p) h =
      takes_distinct w (all_of (λ y. x ≢ y) rest (λ y i. all_at (λ z. x ≢ z) h.0 (rearranged_of p i))) (rearranged_distinct p h.1)

  -- and it has the same sums
  rearranged_sum : (f : A → ℤ) {l k : List A} → Rearranged l k → sum_over f k ≡ sum_over f l
  unfolding sum_over
  rearranged_sum f none = refl
  rearranged_sum f (more {x = x} w p) = takes_sum f w ∙ ap (λ (z : ℤ). f x +ℤ z) (rearranged_sum f p)

-- the image of what is taken out is taken out of the images
takes_map : {A B : Type 0} (f : A → B) {x : A} {k l : List A} → Takes x k l → Takes (f x) (map f k) (map f l)
takes_map f first = first
takes_map f (later w) = later (takes_map f w)

-- the images of a rearranged list are rearranged
rearranged_map : {A B : Type 0} (f : A → B) {l k : List A} → Rearranged l k → Rearranged (map f l) (map f k)
rearranged_map f none = none
rearranged_map f (more w p) = more (takes_map f w) (rearranged_map f p)

-- ---- the test
-- the row has these columns and this sign
abbrev is_row : (List ℕ × ℤ) → (List ℕ × ℤ) → Bool
is_row x y = equal x.0 y.0 && eqb (nat_abs (x.1 -ℤ y.1)) 0

-- a row is in the table
abbrev has_row : (List ℕ × ℤ) → Table → Bool
has_row x [] = false
has_row x (y ∷ t) = elim (is_row x y) [ true ↦ true | false ↦ has_row x t ]

-- the table without that row
abbrev drop_row : (List ℕ × ℤ) → Table → Table
drop_row x [] = []
drop_row x (y ∷ t) = elim (is_row x y) [ true ↦ t | false ↦ y ∷ drop_row x t ]

-- the table's rows are these rows in some order
abbrev has_rows : Table → Table → Bool
has_rows [] [] = true
has_rows [] (y ∷ t) = false
has_rows (x ∷ l) t = has_row x t && has_rows l (drop_row x t)

-- an order with its sign
abbrev signed : List ℕ → List ℕ × ℤ
signed cs = (cs, sign cs)

-- the test: the table's rows are the orders of n columns with their signs, in some order
abbrev pub holds_orders : ℕ → Table → Bool
unfolding orders
holds_orders n t = has_rows (map signed (orders n)) t

-- ---- the test is right
-- rows that pass are equal
is_row→eq : (x y : List ℕ × ℤ) → T (is_row x y) → x ≡ y
is_row→eq x y t =
    let e = equal→eq x.0 y.0 (and_l (equal x.0 y.0) (eqb (nat_abs (x.1 -ℤ y.1)) 0) t) in
    let z = eqb→eq (nat_abs (x.1 -ℤ y.1)) 0 (and_r (equal x.0 y.0) (eqb (nat_abs (x.1 -ℤ y.1)) 0) t) in
    ap₂ (λ (cs : List ℕ) (s : ℤ). (cs, s)) e (sub_zero_eq x.1 y.1 (abs_zero (x.1 -ℤ y.1) z))

-- a row that is found is taken out
drop_row_takes : (x : List ℕ × ℤ) (t : Table) → T (has_row x t) → Takes x t (drop_row x t)
drop_row_takes x [] h = absurd h
drop_row_takes x (y ∷ t) h = by_test (is_row x y) (is_row→eq x y) (drop_row_takes x t) h
  where
    by_test : (b : Bool) → (T b → x ≡ y) → (T (has_row x t) → Takes x t (drop_row x t)) → T (elim b [ true ↦ true | false ↦ has_row x t ]) → Takes x (y ∷ t) (elim b [ true ↦ t | false ↦ y ∷ drop_row x t ])
    by_test true e rest h = subst (λ (z : List ℕ × ℤ). Takes x (z ∷ t) t) (e tt) first
    by_test false e rest h = later (rest h)

-- a table that passes is these rows rearranged
has_rows_rearranged : (l t : Table) → T (has_rows l t) → Rearranged l t
has_rows_rearranged [] [] h = none
has_rows_rearranged [] (y ∷ t) h = absurd h
has_rows_rearranged (x ∷ l) t h =
    more (drop_row_takes x t (and_l (has_row x t) (has_rows l (drop_row x t)) h)) (has_rows_rearranged l (drop_row x t) (and_r (has_row x t) (has_rows l (drop_row x t)) h))

-- the columns of the orders with their signs are the orders
columns_signed : (l : List (List ℕ)) → map columns (map signed l) ≡ l
columns_signed [] = refl
columns_signed (cs ∷ l) = ap (λ (k : List (List ℕ)). cs ∷ k) (columns_signed l)

-- a list that is rearranged lists the same orders
rearranged_lists : {n : ℕ} {l k : List (List ℕ)} → Rearranged l k → ListsOrders n l → ListsOrders n k
rearranged_lists p h =
    record { each = λ cs i. h.each cs (rearranged_of p i); every = λ cs o. rearranged_in p (h.every cs o); once = rearranged_distinct p h.once }

-- a table that passes the test
module _ (n : ℕ) (t : Table) (test : T (holds_orders n t)) where
  -- its rows are the orders with their signs, rearranged
  rearranged : Rearranged (map signed (orders n)) t
  unfolding orders
  rearranged = has_rows_rearranged (map signed (orders n)) t test

  -- it holds each order of n columns once, with its right sign, and nothing else
  pub table_orders : HoldsOrders n t
  table_orders =
      record {
        lists = rearranged_lists (subst (λ (l : List (List ℕ)). Rearranged l (map columns t)) (columns_signed (orders n)) (rearranged_map columns rearranged)) (orders_listed n);
        signs = all_of RightSign t (λ row i. let w = Memᴰ.of_map signed (orders n) (rearranged_of rearranged i) in subst RightSign w.2 refl);
      }

  -- and its sum is the signed sum
  pub table_total : (m : Matrix) → table_sum m t ≡ exact_signed_sum n m
  unfolding table_sum exact_signed_sum
  table_total m =
      rearranged_sum (λ row. row.1 *ℤ down_rows m (columns row)) rearranged
      ∙ sum_over_map (λ row. row.1 *ℤ down_rows m (columns row)) signed (orders n)

-- ---- one table for several orders
-- the test: for each n up to k, that part of the table holds the orders of n columns with their signs
abbrev pub holds_parts : ℕ → Table → Bool
unfolding orders
holds_parts zero t = holds_orders 0 (part 0 t)
holds_parts (suc k) t = holds_orders (suc k) (part (suc k) t) && holds_parts k t

-- each part of a table that passes does pass
part_passes : (k : ℕ) (t : Table) → T (holds_parts k t) → (n : ℕ) → n ≤ k → T (holds_orders n (part n t))
unfolding orders
part_passes zero t test n h = subst (λ (i : ℕ). T (holds_orders i (part i t))) (sym (le-zero h)) test
part_passes (suc k) t test n h =
    let P : ℕ → Bool = λ i. holds_orders i (part i t) in
    by_size (part_passes k t (and_r (P (suc k)) (holds_parts k t) test) n) (and_l (P (suc k)) (holds_parts k t) test) (eq-or-lt_of_le h)
  where
    by_size : (n ≤ k → T (holds_orders n (part n t))) → T (holds_orders (suc k) (part (suc k) t)) → (n ≡ suc k) ⊎ (n < suc k) → T (holds_orders n (part n t))
    by_size below this (inl e) = subst (λ (i : ℕ). T (holds_orders i (part i t))) (sym e) this
    by_size below this (inr l) = below (le_of_suc-le-suc l)

-- so each part holds the orders of n columns
pub part_orders : (k : ℕ) (t : Table) → T (holds_parts k t) → (n : ℕ) → n ≤ k → HoldsOrders n (part n t)
part_orders k t test n h = table_orders n (part n t) (part_passes k t test n h)

-- and has the signed sum as its sum
pub part_total : (k : ℕ) (t : Table) → T (holds_parts k t) → (n : ℕ) → n ≤ k → (m : Matrix) → table_sum m (part n t) ≡ exact_signed_sum n m
part_total k t test n h m = table_total n (part n t) (part_passes k t test n h) m
