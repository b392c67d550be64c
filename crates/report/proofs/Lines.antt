-- From what was read to what the line holds, and from what was written to the whole output.
-- Assumes nothing.
use Rattle.std.proofs.Common.{◌≡◌, ℕ, zero, suc, ◌+◌, ◌-◌, ◌*◌, ◌<◌, ◌≤◌, min, Bool, true, false, cond, ◌&&◌, eqb, leb, List, [], ◌∷◌, map, length, get_or, pos, nat_abs, sym, refl, ap, ◌∙◌, arith, eq-eqb, ne_eqb, eqb-true, leb-true}
use lib.Seq.{sets, drop-nil}
use borrow.Author.Tests.{eqb-false}
use Rattle.report.specs.declared.write.Page.{Page}
use Rattle.report.specs.declared.grid.Order.{Order}
use Rattle.report.specs.declared.grid.Order.TheVariants.{Two, Three, Four}
use Rattle.report.specs.Text.{Bytes}
use Rattle.report.specs.Written.{Adds}
use Rattle.report.specs.Words.{passing, words, order_of, number_of, fits}
use Rattle.report.specs.Entries.{Square}
use Rattle.report.specs.Grid.{size}
use Rattle.report.specs.Line.{Line, no_order, other_count, not_whole, matrix, entries_in, after_order, line_in, line_of}
use Rattle.report.specs.Report.{at_start}
use Rattle.report.proofs.Signs.{fits_small}
use Rattle.report.proofs.Writing.{sets_past, sets_later}

-- ---- how many words

-- words are counted as far as one more than are due: so many are all there are, and just where there are so many
pub counted_just : (due n : ℕ) → n ≡ due → min (due + 1) n ≡ due
counted_just due n e = omega (arith, e)

pub counted_all : (due n : ℕ) → min (due + 1) n ≡ due → n ≡ due
counted_all due n e = omega (arith, e)

-- ---- the order

-- an order is from 2 to 4, or 0
pub record Ordered (n : ℕ) : Type 0 where
  pub most : n ≤ 4
  pub least : (n ≡ 0 → ⊥) → 2 ≤ n

none : Ordered 0
none = record { most = omega arith; least = λ some. absurd (some refl) }

pub ordered : (w : Bytes) → Ordered (order_of w)
unfolding order_of
ordered [] = none
ordered (b ∷ []) = by_least (leb 50 b) refl
  where
    by_most : 50 ≤ b → (t : Bool) → leb b 52 ≡ t → Ordered (cond t (b - 48) 0)
    by_most h true e = let l : b ≤ 52 = leb-true b 52 e in record { most = omega arith; least = λ some. omega arith }
    by_most h false e = none

    by_least : (t : Bool) → leb 50 b ≡ t → Ordered (cond (t && leb b 52) (b - 48) 0)
    by_least true e = by_most (leb-true 50 b e) (leb b 52) refl
    by_least false e = none
ordered (b ∷ d ∷ w) = none

-- the order that the code holds is not 0
size_least : (o : Order) → 2 ≤ size o
size_least Two = omega arith
size_least Three = omega arith
size_least Four = omega arith

-- a matrix has at most 16 entries
pub square_few : (o : Order) → size o * size o ≤ 16
square_few Two = omega arith
square_few Three = omega arith
square_few Four = omega arith

-- ---- a line

-- no word, or a first word that is no order
pub no_word : (s : Bytes) → words s ≡ [] → no_order ≡ line_of s
unfolding line_in
no_word s none = rw none

module _ (s w t : Bytes) (first : words s ≡ w ∷ words t) where
  pub no_order_lem : order_of w ≡ 0 → no_order ≡ line_of s
  unfolding line_in
  no_order_lem e = rw (first, eq-eqb (order_of w) 0 e)

  -- an order, and the words after it
  module _ (o : Order) (order : order_of w ≡ size o) where
    with_order : line_of s ≡ after_order (size o) (words t)
    unfolding line_in
    with_order = rw (first, order, ne_eqb (size o) 0 (λ e. omega (arith, size_least o, e)))

    pub other_follows : (length (words t) ≡ size o * size o → ⊥) → other_count (size o) ≡ line_of s
    unfolding after_order
    other_follows other = rw with_order (rw (ne_eqb (length (words t)) (size o * size o) other))

    pub entries_follow : length (words t) ≡ size o * size o → entries_in (size o) (words t) ≡ line_of s
    unfolding after_order
    entries_follow same = rw with_order (rw (eq-eqb (length (words t)) (size o * size o) same))

-- ---- the numbers

-- a count of all members: the first passes, and so do the others
more_pass : {A : Type 0} (test : A → Bool) (x : A) (xs : List A) → passing test (x ∷ xs) ≡ suc (length xs) → (test x ≡ true) × (passing test xs ≡ length xs)
more_pass test x xs = by_test (test x)
  where
    by_test : (t : Bool) → cond t (suc (passing test xs)) 0 ≡ suc (length xs) → (t ≡ true) × (passing test xs ≡ length xs)
    by_test true e = (refl, omega arith)
    by_test false e = absurd (omega arith)

-- the numbers of words that all fit are small
members_small : (ws : List Bytes) (i : ℕ) → passing fits ws ≡ length ws → i < length ws → nat_abs (get_or (map number_of ws) i (pos 0)) ≤ 1024
members_small [] i e h = absurd (omega arith)
members_small (w ∷ ws) zero e h = fits_small w (more_pass fits w ws e).0
members_small (w ∷ ws) (suc i) e h = members_small ws i (more_pass fits w ws e).1 (omega arith)

-- ---- a matrix that a line holds

-- its order is from 2 to 4, and its entries are small
unfoldable pub SquareIn : Line → Type 0
SquareIn no_order = Unit
SquareIn (other_count n) = Unit
SquareIn (not_whole n place) = Unit
SquareIn (matrix n zs) = Square n zs

pub square_in : (ws : List Bytes) → SquareIn (line_in ws)
unfolding line_in after_order entries_in SquareIn
square_in [] = tt
square_in (w ∷ ws) = by_order (eqb (order_of w) 0) refl
  where
    n : ℕ
    n = order_of w

    by_fit : (order_of w ≡ 0 → ⊥) → length ws ≡ n * n → (t : Bool) → eqb (passing fits ws) (n * n) ≡ t → SquareIn (cond t (matrix n (map number_of ws)) (not_whole n (passing fits ws)))
    by_fit some many true e =
        let fit : passing fits ws ≡ length ws = eqb-true (passing fits ws) (n * n) e ∙ sym many in
        record { least = (ordered w).least some; most = (ordered w).most; small = record { each = λ i h. members_small ws i fit (omega (arith, many)) } }
    by_fit some many false e = tt

    by_count : (order_of w ≡ 0 → ⊥) → (t : Bool) → eqb (length ws) (n * n) ≡ t → SquareIn (cond t (entries_in n ws) (other_count n))
    by_count some true e = by_fit some (eqb-true (length ws) (n * n) e) (eqb (passing fits ws) (n * n)) refl
    by_count some false e = tt

    by_order : (t : Bool) → eqb (order_of w) 0 ≡ t → SquareIn (cond t no_order (after_order n ws))
    by_order true e = tt
    by_order false e = by_count (eqb-false (order_of w) 0 e) (eqb (length ws) (n * n)) refl

-- ---- the output

-- a text stored from the start on
from_start : (l t : Bytes) → sets l 0 t ≡ at_start l t
from_start [] t = sets_past [] 0 t (omega arith) ∙ rw (drop-nil (length t))
from_start (x ∷ l) [] = refl
from_start (x ∷ l) (b ∷ t) = sets_later b l 0 t ∙ ap (λ (r : Bytes). b ∷ r) (from_start l t)

-- what is written on a new page
pub from_new : {p q : Page} {out t : Bytes} → p.out.now ≡ out → p.at ≡ 0 → Adds p t q → q.out.now ≡ at_start out t
from_new {p} {q} {out} {t} same start w = w.wrote.bytes ∙ rw (same, start) (from_start out t)
