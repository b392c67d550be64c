-- Laws of words: how the code reads them.
-- Assumes nothing.
use Rattle.std.proofs.Common.{◌≡◌, ℕ, zero, suc, ◌+◌, ◌-◌, ◌*◌, ◌<◌, ◌≤◌, min, Bool, true, false, cond, ◌&&◌, eqb, leb, List, [], ◌∷◌, length, get_or, take, drop, sym, refl, ap, ◌∙◌, add-one, arith, take_all, length-drop, leb-true, eq-eqb, ne_eqb, eqb-true, true≢false, Bor, Option, Some, None, MatchOption}
use borrow.Author.Tests.{eqb-false}
use lib.Pointwise.{pointwise}
use lib.Seq.{drop-nil}
use Rattle.std.specs.List.{starts_with, prefix_len, take_while}
use Rattle.std.specs.Option.{unwrap_or}
use Rattle.report.specs.Text.{Bytes}
use Rattle.report.specs.Words.{passing, is_blank, lead, parts, kept, words, same, order_of, negative, digits_of, value}
use Rattle.report.specs.Read.{is_other}

-- ---- the order

-- a word of one byte
pub one_byte : (w : Bytes) → length w ≡ 1 → order_of w ≡ cond (leb 50 (get_or w 0 0) && leb (get_or w 0 0) 52) (get_or w 0 0 - 48) 0
unfolding order_of
one_byte [] e = absurd (omega arith)
one_byte (b ∷ []) e = refl
one_byte (b ∷ d ∷ w) e = absurd (omega arith)

-- which is no order
pub other_byte : (w : Bytes) → length w ≡ 1 → (get_or w 0 0 ≡ 50 → ⊥) → (get_or w 0 0 ≡ 51 → ⊥) → (get_or w 0 0 ≡ 52 → ⊥) → order_of w ≡ 0
other_byte w long x y z = one_byte w long ∙ by_test (leb 50 b) (leb b 52) refl refl
  where
    b : ℕ
    b = get_or w 0 0

    by_test : (s t : Bool) → leb 50 b ≡ s → leb b 52 ≡ t → cond (s && t) (b - 48) 0 ≡ 0
    by_test true true e f = absurd (omega (arith, x, y, z, leb-true 50 b e, leb-true b 52 f))
    by_test true false e f = refl
    by_test false t e f = refl

-- any other word
pub other_length : (w : Bytes) → (length w ≡ 1 → ⊥) → order_of w ≡ 0
unfolding order_of
other_length [] none = refl
other_length (b ∷ []) none = absurd (none refl)
other_length (b ∷ d ∷ w) none = refl

-- ---- the number of some digits, at most 1025

-- a number capped before the digits is capped the same after them
pub cap : (n : ℕ) (w : Bytes) → min 1025 (value (min 1025 n) w) ≡ min 1025 (value n w)
unfolding value
cap n [] = omega arith
cap n (b ∷ w) =
    let same_next : min 1025 (min 1025 n * 10 + (b - 48)) ≡ min 1025 (n * 10 + (b - 48)) = omega arith in
    sym (cap (min 1025 n * 10 + (b - 48)) w) ∙ ap (λ (m : ℕ). min 1025 (value m w)) same_next ∙ cap (n * 10 + (b - 48)) w

-- a digit read
value_more : (n : ℕ) (w : Bytes) (i : ℕ) → i < length w → value n (take (suc i) w) ≡ value n (take i w) * 10 + (get_or w i 0 - 48)
unfolding value
value_more n [] i h = absurd (omega arith)
value_more n (b ∷ w) zero h = refl
value_more n (b ∷ w) (suc i) h = value_more (n * 10 + (b - 48)) w i (omega arith)

pub cap_turn : (w : Bytes) (i n m : ℕ) → i < length w → n ≡ min 1025 (value 0 (take i w)) → m ≡ min 1025 (n * 10 + (get_or w i 0 - 48)) → m ≡ min 1025 (value 0 (take (i + 1) w))
cap_turn w i n m h so e = rw (add-one i, value_more 0 w i h) (omega (arith, so, e))

-- ---- the minus sign

-- the test of a byte, from either side
either_side : (a b : ℕ) → eqb a b ≡ eqb b a
either_side a b = by_test (eqb b a) refl
  where
    by_test : (t : Bool) → eqb b a ≡ t → eqb a b ≡ t
    by_test true e = eq-eqb a b (sym (eqb-true b a e))
    by_test false e = ne_eqb a b (λ f. eqb-false b a e (sym f))

pub sign_tested : (w : Bytes) (r : Bool) → r ≡ starts_with eqb w (45 ∷ []) → r ≡ negative w
unfolding negative
sign_tested [] r e = e
sign_tested (b ∷ w) r e = e ∙ by_test (eqb b 45) (either_side 45 b)
  where
    by_test : (t : Bool) → eqb 45 b ≡ t → eqb 45 b && true ≡ t
    by_test true e = rw e
    by_test false e = rw e

-- the word without it
pub sign_taken : (w : Bytes) (word d : Bor Bytes) (r : Option (Bor Bytes)) → word.now ≡ w
    → MatchOption r (pointwise eqb (take 1 w) (45 ∷ []) ≡ false) (λ x. (pointwise eqb (take 1 w) (45 ∷ []) ≡ true) × (x.now ≡ drop 1 w) × (length x.now + 1 ≡ length w))
    → d ≡ unwrap_or r word → d.now ≡ digits_of w
unfolding digits_of
sign_taken [] word d None is cases e = rw e is
sign_taken [] word d (Some x) is cases e = absurd (omega (arith, cases.2))
sign_taken (b ∷ w) word d r is cases e = by_test (eqb b 45) r refl cases e
  where
    by_test : (t : Bool) (r : Option (Bor Bytes)) → eqb b 45 ≡ t
        → MatchOption r (t && true ≡ false) (λ x. (t && true ≡ true) × (x.now ≡ w) × (length x.now + 1 ≡ length (b ∷ w)))
        → d ≡ unwrap_or r word → d.now ≡ cond t w (b ∷ w)
    by_test true None f cases e = absurd (true≢false cases)
    by_test true (Some x) f cases e = rw e cases.1
    by_test false None f cases e = rw e is
    by_test false (Some x) f cases e = absurd (true≢false (sym cases.0))

-- ---- the word --help

-- the same bytes
pub same_is : (a b : Bytes) → pointwise eqb a b ≡ same a b
unfolding same
same_is [] [] = refl
same_is [] (c ∷ b) = refl
same_is (x ∷ a) [] = refl
same_is (x ∷ a) (c ∷ b) = rw (same_is a b)

pub same_as : (a b t : Bytes) → b ≡ t → pointwise eqb a b ≡ same a t
same_as a b t e = rw e (same_is a t)

-- ---- the first word

-- how many members pass
prefix_is : (test : ℕ → Bool) (s : Bytes) → prefix_len test s ≡ passing test s
prefix_is test [] = refl
prefix_is test (b ∷ s) = by_test (test b) (prefix_is test s)
  where
    by_test : (t : Bool) → prefix_len test s ≡ passing test s → cond t (1 + prefix_len test s) 0 ≡ cond t (suc (passing test s)) 0
    by_test true e = omega arith
    by_test false e = refl

passing_long : (test : ℕ → Bool) (s : Bytes) → length (take (passing test s) s) ≡ passing test s
passing_long test [] = refl
passing_long test (b ∷ s) = by_test (test b) (passing_long test s)
  where
    by_test : (t : Bool) → length (take (passing test s) s) ≡ passing test s → length (take (cond t (suc (passing test s)) 0) (b ∷ s)) ≡ cond t (suc (passing test s)) 0
    by_test true e = ap suc e
    by_test false e = refl

count_is : (test : ℕ → Bool) (s : Bytes) → length (take_while test s) ≡ passing test s
count_is test s = ap (λ (k : ℕ). length (take k s)) (prefix_is test s) ∙ passing_long test s

-- blanks at the start of a line are passed
past_blanks : (s : Bytes) → words (drop (passing is_blank s) s) ≡ words s
unfolding parts kept
past_blanks [] = refl
past_blanks (b ∷ s) = by_test (is_blank b) refl (past_blanks s)
  where
    by_test : (t : Bool) → is_blank b ≡ t → words (drop (passing is_blank s) s) ≡ words s → words (drop (cond t (suc (passing is_blank s)) 0) (b ∷ s)) ≡ words (b ∷ s)
    by_test true e so = so ∙ sym (rw e)
    by_test false e so = refl

-- the first byte, or 0
abbrev head : Bytes → ℕ
head [] = 0
head (y ∷ l) = y

-- no blank stands at the start of what is left
stands : (s : Bytes) (b : ℕ) (t : Bytes) → drop (passing is_blank s) s ≡ b ∷ t → is_blank b ≡ false
stands [] b t e = absurd (let z : 0 ≡ suc (length t) = ap length e in omega arith)
stands (x ∷ s) b t e = by_test (is_blank x) refl e (stands s b t)
  where
    by_test : (u : Bool) → is_blank x ≡ u → drop (cond u (suc (passing is_blank s)) 0) (x ∷ s) ≡ b ∷ t → (drop (passing is_blank s) s ≡ b ∷ t → is_blank b ≡ false) → is_blank b ≡ false
    by_test true f e so = so e
    by_test false f e so = ap is_blank (sym (ap head e)) ∙ f

-- a line has a first part
pub some_part : (s : Bytes) → (w : Bytes) × (ws : List Bytes) × (parts s ≡ w ∷ ws)
unfolding parts
some_part [] = ([], [], refl)
some_part (b ∷ s) = by_test (is_blank b) (some_part s)
  where
    by_test : (t : Bool) → (w : Bytes) × (ws : List Bytes) × (parts s ≡ w ∷ ws) → (w : Bytes) × (ws : List Bytes) × (cond t ([] ∷ parts s) (lead b (parts s)) ≡ w ∷ ws)
    by_test true rest = ([], parts s, refl)
    by_test false rest = (b ∷ rest.0, rest.1, rw rest.2)

-- the parts after the first one, of what is left of a line
abbrev after_part : Bytes → List Bytes
after_part [] = []
after_part (b ∷ s) = parts s

-- the first part is what stands before the first blank
first_part : (s : Bytes) → parts s ≡ take (passing is_other s) s ∷ after_part (drop (passing is_other s) s)
unfolding parts
first_part [] = refl
first_part (b ∷ s) = by_test (is_blank b) (first_part s)
  where
    by_test : (t : Bool) → parts s ≡ take (passing is_other s) s ∷ after_part (drop (passing is_other s) s)
        → cond t ([] ∷ parts s) (lead b (parts s)) ≡ take (cond (cond t false true) (suc (passing is_other s)) 0) (b ∷ s) ∷ after_part (drop (cond (cond t false true) (suc (passing is_other s)) 0) (b ∷ s))
    by_test true e = refl
    by_test false e = rw e

-- the words after it
after_words : (s : Bytes) → kept (after_part (drop (passing is_other s) s)) ≡ words (drop (passing is_other s) s)
unfolding parts kept
after_words [] = refl
after_words (b ∷ s) = by_test (is_blank b) refl (after_words s)
  where
    by_test : (t : Bool) → is_blank b ≡ t → kept (after_part (drop (passing is_other s) s)) ≡ words (drop (passing is_other s) s)
        → kept (after_part (drop (cond (cond t false true) (suc (passing is_other s)) 0) (b ∷ s))) ≡ words (drop (cond (cond t false true) (suc (passing is_other s)) 0) (b ∷ s))
    by_test true e so = sym (rw e)
    by_test false e so = so

-- a part with bytes is a word
kept_word : (w : Bytes) (ps : List Bytes) → (length w ≡ 0 → ⊥) → kept (w ∷ ps) ≡ w ∷ kept ps
unfolding kept
kept_word [] ps some = absurd (some refl)
kept_word (b ∷ w) ps some = refl

module _ (s from w r : Bytes) (k j : ℕ) (blanks : k ≡ length (take_while is_blank s)) (here : from ≡ take (length s - k) (drop k s)) (others : j ≡ length (take_while is_other from)) (front : w ≡ take j from) (back : r ≡ drop j from) where
  from_is : from ≡ drop (passing is_blank s) s
  from_is = here ∙ take_all (length s - k) (drop k s) (simp length-drop (omega arith)) ∙ ap (λ (k : ℕ). drop k s) (blanks ∙ count_is is_blank s)

  count : j ≡ passing is_other from
  count = others ∙ count_is is_other from

  same_words : words from ≡ words s
  same_words = ap words from_is ∙ past_blanks s

  -- a part without bytes is the line's end
  pub word_ends : length w ≡ 0 → (words s ≡ []) × (words r ≡ [])
  unfolding parts kept
  word_ends none = by_rest from from_is count front back same_words
    where
      by_rest : (f : Bytes) → f ≡ drop (passing is_blank s) s → j ≡ passing is_other f → w ≡ take j f → r ≡ drop j f → words f ≡ words s → (words s ≡ []) × (words r ≡ [])
      by_rest [] e c p q so = (sym so, ap words (q ∙ drop-nil j))
      by_rest (b ∷ t) e c p q so =
          let one : passing is_other (b ∷ t) ≡ suc (passing is_other t) = rw (stands s b t (sym e)) in
          let long : length w ≡ suc (length (take (passing is_other t) t)) = rw (p, c, one) in
          absurd (omega (arith, long, none))

  -- and one with bytes is the first word
  pub word_next : (length w ≡ 0 → ⊥) → words s ≡ w ∷ words r
  word_next some =
      let w_is : w ≡ take (passing is_other from) from = front ∙ rw count in
      let r_is : r ≡ drop (passing is_other from) from = back ∙ rw count in
      sym same_words ∙ ap kept (first_part from) ∙ kept_word (take (passing is_other from) from) _ (λ e. some (ap length w_is ∙ e)) ∙ rw (← w_is, after_words from, ← r_is)

  -- after which fewer are left
  pub word_less : (length w ≡ 0 → ⊥) → length (words r) < length (words s)
  word_less some = omega (arith, ap length (word_next some))

-- ---- how many words there are

-- the parts after the first are as many words, or one fewer
kept_fewer : (p : Bytes) (ps : List Bytes) → length (kept ps) ≤ length (kept (p ∷ ps))
unfolding kept
kept_fewer [] ps = omega arith
kept_fewer (b ∷ p) ps = omega arith

-- a line has no more words than bytes
pub words_few : (s : Bytes) → length (words s) ≤ length s
unfolding parts kept
words_few [] = omega arith
words_few (b ∷ s) = by_test (is_blank b) (some_part s) (words_few s)
  where
    by_test : (t : Bool) → (w : Bytes) × (ws : List Bytes) × (parts s ≡ w ∷ ws) → length (words s) ≤ length s → length (kept (cond t ([] ∷ parts s) (lead b (parts s)))) ≤ suc (length s)
    by_test true some few = omega arith
    by_test false some few =
        let less : length (kept some.1) ≤ length (kept (parts s)) = rw some.2 (kept_fewer some.0 some.1) in
        rw some.2 (omega (arith, less, few))
