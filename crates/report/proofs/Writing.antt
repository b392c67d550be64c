-- One text written after another is the two texts joined, whether there is room for them or not.
-- Assumes nothing.
use Rattle.std.proofs.Common.{◌≡◌, ℕ, zero, suc, ◌+◌, ◌/◌, ◌^◌, ◌<◌, ◌≤◌, min, Bool, true, false, cond, leb, [], ◌∷◌, ◌++◌, length, get_or, take, set, sym, refl, ◌∙◌, subst, append_assoc, append-nil, add-zero, pow-suc, add-one, arith, lit<, length-append, take-suc, leb-false, leb-true}
use lib.Seq.{sets, set_out}
use Rattle.report.specs.Text.{Bytes, digit, higher, decimal}
use Rattle.report.specs.declared.write.Page.{Page}
use Rattle.report.specs.Written.{Wrote, Adds}

-- past the end nothing is stored
pub sets_past : (l : Bytes) (i : ℕ) (t : Bytes) → length l ≤ i → sets l i t ≡ l
sets_past l i [] h = refl
sets_past l i (b ∷ t) h = rw (set_out l i b h) (sets_past l (suc i) t (omega arith))

-- stores past the first place
pub sets_later : (x : ℕ) (l : Bytes) (i : ℕ) (t : Bytes) → sets (x ∷ l) (suc i) t ≡ x ∷ sets l i t
sets_later x l i [] = refl
sets_later x l i (b ∷ t) = sets_later x (set l i b) (suc i) t

-- two runs of stores, one after the other
sets_then : (l : Bytes) (i : ℕ) (s t : Bytes) → sets l i (s ++ t) ≡ sets (sets l i s) (i + length s) t
sets_then l i [] t = rw (add-zero i)
sets_then l i (b ∷ s) t =
    let e : suc i + length s ≡ i + suc (length s) = omega arith in
    sets_then (set l i b) (suc i) s t ∙ rw e

-- where there is no room the place does not matter
sets_cut : (l : Bytes) (k : ℕ) (t : Bytes) → sets l (min (length l) k) t ≡ sets l k t
sets_cut l k t = by_test (leb (length l) k) refl
  where
    by_test : (b : Bool) → leb (length l) k ≡ b → sets l (min (length l) k) t ≡ sets l k t
    by_test true e =
        let past : length l ≤ k = leb-true _ _ e in
        let is : min (length l) k ≡ length l = omega arith in
        rw is (sets_past l (length l) t (omega arith) ∙ sym (sets_past l k t past))
    by_test false e =
        let short : k < length l = leb-false _ _ e in
        let is : min (length l) k ≡ k = omega arith in
        rw is

-- one text, and then another from the next place on
wrote_then : {l l' l'' s t : Bytes} {at at' at'' : ℕ} → Wrote l at s l' at' → Wrote l' at' t l'' at'' → Wrote l at (s ++ t) l'' at''
wrote_then {l} {l'} {l''} {s} {t} {at} {at'} {at''} first second =
    let cut : at' ≡ min (length l') (at + length s) = rw first.same first.place in
    record {
      bytes = rw (second.bytes, cut, sets_cut l' (at + length s) t, first.bytes) (sym (sets_then l at s t));
      place = rw (length-append s t) (omega (arith, first.place, second.place, first.same));
      within = second.within;
      same = second.same ∙ first.same;
    }

module _ {p : Page} where
  -- nothing written
  pub nothing : Adds p [] p
  nothing = record { wrote = record { bytes = refl; place = omega (arith, p.within); within = p.within; same = refl }; same_slice = refl }

  -- one text, and then another
  pub then : {s t : Bytes} {q r : Page} → Adds p s q → Adds q t r → Adds p (s ++ t) r
  then first second = record { wrote = wrote_then first.wrote second.wrote; same_slice = second.same_slice ∙ first.same_slice }

  -- the same text by another name
  pub named : {s t : Bytes} {q : Page} → s ≡ t → Adds p s q → Adds p t q
  named {s} {t} {q} e w = subst (λ (t : Bytes). Adds p t q) e w

  -- one byte more of a text
  pub byte_more : (s : Bytes) {q r : Page} (i : ℕ) → i < length s → Adds p (take i s) q → Adds q (get_or s i 0 ∷ []) r → Adds p (take (i + 1) s) r
  byte_more s i h first second = named (rw (add-one i, take-suc s i 0 h)) (then first second)

-- ---- decimal digits

-- where the loop over the powers stands at 10^j: what is written, and the digits from there on, are the digits above the last
pub record Digits (n : ℕ) (p q : Page) (power j : ℕ) : Type 0 where
  pub power_is : power ≡ 10 ^ j
  pub front : Bytes
  pub added : Adds p front q
  pub whole : front ++ higher j n ≡ higher 19 n

-- a power of ten is not zero
ten_positive : (j : ℕ) → 0 < 10 ^ j
ten_positive zero = lit< tt
ten_positive (suc j) = omega (arith, pow-suc 10 j, ten_positive j)

-- and so is the one that the loop has come to
pub power_positive : {n : ℕ} {p q : Page} {power j : ℕ} → Digits n p q power j → 0 < power
power_positive {j = j} d = rw d.power_is (ten_positive j)

module _ {n : ℕ} {p q r : Page} {power : ℕ} where
  -- a turn
  pub digits_turn : {j : ℕ} → Digits n p q power (suc j) → Adds q (cond (leb power n) (digit (n / power) ∷ []) []) r → Digits n p r (power / 10) j
  unfolding higher
  digits_turn {j} d w =
      record {
        power_is = omega (arith, d.power_is, pow-suc 10 j);
        front = d.front ++ cond (leb power n) (digit (n / power) ∷ []) [];
        added = then d.added w;
        whole = rw (append_assoc, d.power_is) d.whole;
      }

  -- at the end
  pub digits_end : Digits n p q power 0 → Adds q (digit n ∷ []) r → Adds p (decimal n) r
  unfolding decimal higher
  digits_end d w = named (rw (← d.whole, append-nil)) (then d.added w)
