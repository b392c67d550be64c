-- `orders n` lists the orders of n columns: each of them, each once, and nothing else. And the sign of an order, by its first column and the order of the others.
-- Assumes nothing.
use mathlib.Core.Path.{◌≡◌, refl, sym, ap, ap₂, ◌∙◌, subst}
use mathlib.Core.Logic.{◌≢◌}
use mathlib.Core.Bool.{Bool, true, false, not}
use mathlib.Core.List.Memᴰ
use mathlib.Core.List.{List, [], ◌∷◌, map, Memᴰ}
use Prim.Native.Nat.{ℕ, zero, suc, ◌+◌, ◌≤◌, ◌<◌, suc-le-suc}
use native.Mathlib.Numerals.{one-add}
use native.Mathlib.Nat.{le_refl, le_trans, le_of_suc-le-suc, not-suc-le-zero, suc_inj, zero-add}
use native.Mathlib.Omega.{arith}
use lib.Dec.{T, ltb, ltb→lt, nltb→le, leb-suc-suc, leb-suc-zero, leb-zero}
use lib.ListN.{length, length-map, get_or}
use lib.IntN.{◌*ℤ◌}
use Rattle.whole.proofs.Parity.{parity_add}
use Rattle.whole.proofs.Lists.{all_at, all_of, all_map, all_of_map, distinct_map, distinct_of_map, joined_cases, joined_in, distinct_joined, length_joined, map_inj}
use Rattle.whole.proofs.Skip.{skip_apart, skip_inj, skip_le, skip_lt, Place, here, there, place}
use Rattle.whole.specs.Order.{All, Distinct, Order, one_if, smaller, inversions, parity, sign, skip, lead, orders}
use Rattle.whole.specs.Claim.{ListsOrders, factorial}

-- ---- an order by its first column
-- a list in which c does not stand lists numbers other than c
others : (c : ℕ) (cs : List ℕ) → All (λ d. c ≢ d) cs → (ds : List ℕ) × (cs ≡ map (skip c) ds)
others c [] h = ([], refl)
others c (d ∷ cs) h = by_place (place c d) h.0 (others c cs h.1)
  where
    by_place : {d : ℕ} → Place c d → c ≢ d → (ds : List ℕ) × (cs ≡ map (skip c) ds) → (ds : List ℕ) × (d ∷ cs ≡ map (skip c) ds)
    by_place here apart rest = absurd (apart refl)
    by_place (there j) apart rest = (j ∷ rest.0, ap (λ (l : List ℕ). skip c j ∷ l) rest.1)

-- a column first and an order of n others is an order of n + 1 columns
pub order_lead : (n c : ℕ) (cs : List ℕ) → c ≤ n → Order n cs → Order (suc n) (lead c cs)
order_lead n c cs h o =
    record {
      count = ap suc (length-map cs (skip c) ∙ o.count);
      below = (suc-le-suc h, all_map (λ d. d < suc n) (skip c) cs (all_of (λ d. skip c d < suc n) cs (λ d m. suc-le-suc (skip_le n c d h (all_at (λ e. e < n) o.below m)))));
      distinct = (all_map (λ d. c ≢ d) (skip c) cs (all_of (λ d. c ≢ skip c d) cs (λ d m. skip_apart c d)), distinct_map (skip c) (skip_inj c) cs o.distinct);
    }

-- an order of n + 1 columns is a column first and an order of n others
pub order_split : (n : ℕ) (cs : List ℕ) → Order (suc n) cs → (c : ℕ) × (ds : List ℕ) × (c ≤ n) × Order n ds × (cs ≡ lead c ds)
order_split n [] o = absurd (omega (arith, o.count))
order_split n (c ∷ cs) o = (c, ds, h, rest, ap (λ (l : List ℕ). c ∷ l) e)
  where
    h : c ≤ n
    h = le_of_suc-le-suc o.below.0

    ds : List ℕ
    ds = (others c cs o.distinct.0).0

    e : cs ≡ map (skip c) ds
    e = (others c cs o.distinct.0).1

    rest : Order n ds
    rest =
        record {
          count = sym (length-map ds (skip c)) ∙ ap length (sym e) ∙ suc_inj o.count;
          below = all_of_map (λ d. d < suc n) (λ d. d < n) (skip c) ds (λ d l. skip_lt n c d h (le_of_suc-le-suc l)) (subst (All (λ d. d < suc n)) e o.below.1);
          distinct = distinct_of_map (skip c) ds (subst Distinct e o.distinct.1);
        }

-- ---- what `orders` lists
-- each member is an order
pub orders_sound : (n : ℕ) (cs : List ℕ) → Memᴰ cs (orders n) → Order n cs
unfolding orders
orders_sound zero cs (Memᴰ.head e) = subst (Order 0) (sym e) (record { count = refl; below = tt; distinct = tt })
orders_sound zero cs (Memᴰ.tail m) = absurd (Memᴰ.not-nil m)
orders_sound (suc n) cs m =
    let w = joined_cases (suc n) (λ c. map (lead c) (orders n)) m in
    let v = Memᴰ.of_map (lead w.0) (orders n) w.2 in
    subst (Order (suc n)) v.2 (order_lead n w.0 v.0 (le_of_suc-le-suc w.1) (orders_sound n v.0 v.1))

-- each order is a member
pub orders_complete : (n : ℕ) (cs : List ℕ) → Order n cs → Memᴰ cs (orders n)
unfolding orders
orders_complete zero [] o = Memᴰ.head refl
orders_complete zero (c ∷ cs) o = absurd (not-suc-le-zero o.below.0)
orders_complete (suc n) cs o =
    let w = order_split n cs o in
    Memᴰ.cast w.4 (joined_in (suc n) (λ c. map (lead c) (orders n)) w.0 (suc-le-suc w.2) (Memᴰ.map (lead w.0) (orders_complete n w.1 w.3)))

-- no order is a member twice
pub orders_once : (n : ℕ) → Distinct (orders n)
unfolding orders
orders_once zero = (tt, tt)
orders_once (suc n) =
    distinct_joined (suc n) (λ c. map (lead c) (orders n))
    (λ c. distinct_map (lead c) (λ cs ds e. map_inj (skip c) (skip_inj c) cs ds (cc)) (orders n) (orders_once n))
    (λ c d cs k m. first ((Memᴰ.of_map (lead c) (orders n) k).2 ∙ sym (Memᴰ.of_map (lead d) (orders n) m).2))
  where
    first : {c d : ℕ} {cs ds : List ℕ} → c ∷ cs ≡ d ∷ ds → c ≡ d
    first e = ap (λ (l : List ℕ). get_or l 0 0) e

-- `orders n` holds each order of n columns once, and nothing else
pub orders_listed : (n : ℕ) → ListsOrders n (orders n)
orders_listed n = record { each = orders_sound n; every = orders_complete n; once = orders_once n }

-- there are n! orders of n columns
pub orders_count : (n : ℕ) → length (orders n) ≡ factorial n
unfolding orders
orders_count zero = refl
orders_count (suc n) = length_joined (suc n) (factorial n) (λ c. map (lead c) (orders n)) (λ c. length-map (orders n) (lead c) ∙ orders_count n)

-- ---- how many columns of an order are smaller than j
-- 0 is smaller than any successor
less_zero : (n : ℕ) → ltb 0 (suc n) ≡ true
less_zero n = leb-suc-suc 0 n ∙ leb-zero n

-- leaving c out keeps the order of the others
less_skip : (c d e : ℕ) → ltb (skip c d) (skip c e) ≡ ltb d e
less_skip zero d e = leb-suc-suc (suc d) e
less_skip (suc c) zero zero = refl
less_skip (suc c) zero (suc e) = less_zero (skip c e) ∙ sym (less_zero e)
less_skip (suc c) (suc d) zero = leb-suc-zero (suc (skip c d)) ∙ sym (leb-suc-zero (suc d))
less_skip (suc c) (suc d) (suc e) = leb-suc-suc (suc (skip c d)) (skip c e) ∙ less_skip c d e ∙ sym (leb-suc-suc (suc d) e)

-- up to c nothing changes
less_low : (c j d : ℕ) → j ≤ c → ltb (skip c d) j ≡ ltb d j
less_low c zero d h = leb-suc-zero (skip c d) ∙ sym (leb-suc-zero d)
less_low zero (suc j) d h = absurd (not-suc-le-zero h)
less_low (suc c) (suc j) zero h = refl
less_low (suc c) (suc j) (suc d) h = leb-suc-suc (suc (skip c d)) j ∙ less_low c j d (le_of_suc-le-suc h) ∙ sym (leb-suc-suc (suc d) j)

-- beyond c each moves up by one
less_high : (c j d : ℕ) → c ≤ j → ltb (skip c d) (suc j) ≡ ltb d j
less_high zero j d h = leb-suc-suc (suc d) j
less_high (suc c) zero d h = absurd (not-suc-le-zero h)
less_high (suc c) (suc j) zero h = less_zero (suc j) ∙ sym (less_zero j)
less_high (suc c) (suc j) (suc d) h = leb-suc-suc (suc (skip c d)) (suc j) ∙ less_high c j d (le_of_suc-le-suc h) ∙ sym (leb-suc-suc (suc d) j)

-- the count of smaller members looks only at the members' tests
smaller_map : (f : ℕ → ℕ) (i j : ℕ) (ds : List ℕ) → ((d : ℕ) → ltb (f d) i ≡ ltb d j) → smaller i (map f ds) ≡ smaller j ds
smaller_map f i j [] h = refl
smaller_map f i j (d ∷ ds) h = ap₂ (λ (b : Bool) (n : ℕ). one_if b + n) (h d) (smaller_map f i j ds h)

-- j columns are smaller than j, if the same holds of the order of the others
smaller_lead : (n c : ℕ) (ds : List ℕ) → c ≤ n → ((j : ℕ) → j ≤ n → smaller j ds ≡ j) → (j : ℕ) → j ≤ suc n → (b : Bool) → (T b → c < j) → (T (not b) → j ≤ c) → one_if b + smaller j (map (skip c) ds) ≡ j
smaller_lead n c ds l rest zero h true above under = absurd (not-suc-le-zero (above tt))
smaller_lead n c ds l rest (suc j) h true above under =
    ap (λ (k : ℕ). 1 + k) (smaller_map (skip c) (suc j) j ds (λ d. less_high c j d (le_of_suc-le-suc (above tt))) ∙ rest j (le_of_suc-le-suc h)) ∙ one-add j
smaller_lead n c ds l rest j h false above under =
    ap (λ (k : ℕ). 0 + k) (smaller_map (skip c) j j ds (λ d. less_low c j d (under tt)) ∙ rest j (le_trans (under tt) l)) ∙ zero-add j

-- of the columns of an order j are smaller than j, for each j up to n
pub smaller_count : (n : ℕ) (cs : List ℕ) → Order n cs → (j : ℕ) → j ≤ n → smaller j cs ≡ j
smaller_count zero [] o zero h = refl
smaller_count zero [] o (suc j) h = absurd (not-suc-le-zero h)
smaller_count zero (c ∷ cs) o j h = absurd (not-suc-le-zero o.below.0)
smaller_count (suc n) cs o j h =
    let w = order_split n cs o in
    ap (smaller j) w.4 ∙ smaller_lead n w.0 w.1 w.2 (smaller_count n w.1 w.3) j h (ltb w.0 j) (ltb→lt w.0 j) (nltb→le w.0 j)

-- ---- the sign of an order
-- leaving a column out keeps the inversions of the others
inversions_skip : (c : ℕ) (ds : List ℕ) → inversions (map (skip c) ds) ≡ inversions ds
inversions_skip c [] = refl
inversions_skip c (d ∷ ds) = ap₂ (λ (m n : ℕ). m + n) (smaller_map (skip c) (skip c d) d ds (λ e. less_skip c e d)) (inversions_skip c ds)

-- the sign of an order by its first column and the order of the others
pub sign_lead : (n c : ℕ) (cs : List ℕ) → c ≤ n → Order n cs → sign (lead c cs) ≡ parity c *ℤ sign cs
sign_lead n c cs h o =
    ap₂ (λ (i j : ℕ). parity (i + j)) (smaller_map (skip c) c c cs (λ d. less_low c c d (le_refl c)) ∙ smaller_count n cs o c h) (inversions_skip c cs)
    ∙ parity_add c (inversions cs)
