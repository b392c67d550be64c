-- The loop that reads the entries: words one after another, those that fit counted and held.
-- Assumes nothing.
use Rattle.std.proofs.Common.{◌≡◌, ℕ, zero, suc, ◌+◌, ◌*◌, ◌<◌, ◌≤◌, true, false, List, [], ◌∷◌, ◌++◌, map, length, get_or, take, set, ℤ, pos, nat_abs, sym, ap, ◌∙◌, append_assoc, append-nil, add-one, arith, lit<, length-set, take-suc-set, eq-eqb, ne_eqb}
use Rattle.engine.proofs.Signed.{small_back}
use Rattle.report.specs.Text.{Bytes}
use Rattle.report.specs.Words.{words, fits, passing, number_of}
use Rattle.report.specs.Entries.{SmallList}
use Rattle.report.specs.Line.{matrix, not_whole, entries_in}
use Rattle.report.proofs.Signs.{held, fits_small}

-- a small number stored among small ones
set_small : (list : List ℤ) (i : ℕ) (z : ℤ) (k : ℕ) → nat_abs (get_or list k (pos 0)) ≤ 1024 → nat_abs z ≤ 1024 → nat_abs (get_or (set list i z) k (pos 0)) ≤ 1024
set_small [] i z k h l = h
set_small (x ∷ list) zero z zero h l = l
set_small (x ∷ list) zero z (suc k) h l = h
set_small (x ∷ list) (suc i) z zero h l = h
set_small (x ∷ list) (suc i) z (suc k) h l = set_small list i z k h l

pub small_set : (list : List ℤ) (i : ℕ) (z : ℤ) → SmallList 16 list → nat_abs z ≤ 1024 → SmallList 16 (set list i z)
small_set list i z small few = record { each = λ k h. set_small list i z k (small.each k h) few }

-- where the loop stands, with i words of the line s read and the rest to come: what is read, and the words of the rest, are the words
pub record SoFar (s : Bytes) (list : List ℤ) (rest : Bytes) (i : ℕ) : Type 0 where
  pub room : length list ≡ 16
  pub small : SmallList 16 list
  pub counted : i + length (words rest) ≡ length (words s)
  pub fit : i + passing fits (words rest) ≡ passing fits (words s)
  pub read : take i list ++ map number_of (words rest) ≡ map number_of (words s)

module _ {s : Bytes} {list : List ℤ} {rest next w : Bytes} {i : ℕ} (so : SoFar s list rest i) (first : words rest ≡ w ∷ words next) where
  -- a word that fits, as the code holds its number
  pub turn : (z : ℤ) → fits w ≡ true → z ≡ number_of w → length (words s) ≤ 16 → SoFar s (set list i (held z)) next (i + 1)
  turn z e is few =
      let small = fits_small w e in
      let same : held z ≡ number_of w = rw is (small_back (number_of w) small (lit< tt)) in
      let long : length (words rest) ≡ suc (length (words next)) = ap length first in
      let below : i < length list = omega (arith, so.room, so.counted, long, few) in
      let one : passing fits (words rest) ≡ suc (passing fits (words next)) = rw (first, e) in
      record {
        room = length-set list i (held z) ∙ so.room;
        small = small_set list i (held z) so.small (rw same small);
        counted = omega (arith, so.counted, long);
        fit = omega (arith, so.fit, one);
        read = rw (add-one i, take-suc-set list i (held z) below, append_assoc, same) (rw first at so.read);
      }

-- a word that does not
pub stop : {s : Bytes} {list : List ℤ} {rest w : Bytes} {ws : List Bytes} {i : ℕ} → SoFar s list rest i → words rest ≡ w ∷ ws → (n : ℕ) → fits w ≡ false → length (words s) ≡ n * n → not_whole n i ≡ entries_in n (words s)
unfolding entries_in
stop {s} {list} {rest} {w} {ws} {i} so first n e long =
    let some : length (words rest) ≡ suc (length ws) = ap length first in
    let none : passing fits (words rest) ≡ 0 = rw (first, e) in
    let here : passing fits (words s) ≡ i = omega (arith, so.fit, none) in
    let fewer : i ≡ n * n → ⊥ = λ same. omega (arith, so.counted, some, long, same) in
    rw (here, ne_eqb i (n * n) fewer)

-- no word left
pub ended : {s : Bytes} {list : List ℤ} {rest : Bytes} {i : ℕ} (n : ℕ) → SoFar s list rest i → words rest ≡ [] → length (words s) ≡ n * n → matrix n (take (n * n) list) ≡ entries_in n (words s)
unfolding entries_in
ended {s} {list} {rest} {i} n so none long =
    let count : i ≡ n * n = omega (arith, so.counted, ap length none, long) in
    let all_fit : passing fits (words s) ≡ n * n = sym so.fit ∙ rw none (omega (arith, count)) in
    let read_is : take (n * n) list ≡ map number_of (words s) = rw count at (sym (append-nil (take i list)) ∙ rw none at so.read) in
    rw (eq-eqb (passing fits (words s)) (n * n) all_fit, read_is)
