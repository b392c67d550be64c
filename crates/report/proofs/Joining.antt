-- Words put one after another, a blank after each, are the words of the line.
-- Assumes nothing.
use Rattle.std.proofs.Common.{◌≡◌, ℕ, zero, suc, ◌+◌, ◌<◌, ◌≤◌, Bool, true, false, cond, List, [], ◌∷◌, ◌++◌, length, take, sym, refl, ap, ◌∙◌, append_assoc, append-nil, arith, length-append}
use lib.Seq.{sets}
use Rattle.report.specs.Text.{Bytes}
use Rattle.report.specs.Words.{is_blank, lead, parts, kept, words, joined, JoinedWords, WordAdded}
use Rattle.report.proofs.Reading.{some_part}
use Rattle.report.proofs.Writing.{sets_past, sets_later}

-- the parts of a line, a blank and another line
abbrev parted : Bytes → Bytes → Type 0
parted s t = parts (s ++ (32 ∷ t)) ≡ parts s ++ parts t

lead_more : (b : ℕ) (ps qs : List Bytes) {w : Bytes} {ws : List Bytes} → ps ≡ w ∷ ws → lead b (ps ++ qs) ≡ lead b ps ++ qs
lead_more b ps qs e = rw e

apart : (s t : Bytes) → parted s t
unfolding parts is_blank
apart [] t = refl
apart (b ∷ s) t = by_test (is_blank b) (apart s t)
  where
    by_test : (u : Bool) → parted s t → cond u ([] ∷ parts (s ++ (32 ∷ t))) (lead b (parts (s ++ (32 ∷ t)))) ≡ cond u ([] ∷ parts s) (lead b (parts s)) ++ parts t
    by_test true e = rw e
    by_test false e = rw e (lead_more b (parts s) (parts t) (some_part s).2)

-- the words of both
kept_both : (ps qs : List Bytes) → kept (ps ++ qs) ≡ kept ps ++ kept qs
unfolding kept
kept_both [] qs = refl
kept_both ([] ∷ ps) qs = kept_both ps qs
kept_both ((b ∷ p) ∷ ps) qs = ap (λ ws. (b ∷ p) ∷ ws) (kept_both ps qs)

-- so the words of a line that was put together are those of what was put in
pub joined_words : JoinedWords
unfolding parts kept
joined_words [] = refl
joined_words (s ∷ ss) =
    ap words (append_assoc s (32 ∷ []) (joined ss)) ∙ ap kept (apart s (joined ss)) ∙ kept_both (parts s) (parts (joined ss)) ∙ ap (λ ws. words s ++ ws) (joined_words ss)

-- ---- a text behind what stood before

added_behind : (l : Bytes) (at : ℕ) (t : Bytes) → at + length t ≤ length l → take (at + length t) (sets l at t) ≡ take at l ++ t
added_behind l zero [] h = refl
added_behind [] zero (b ∷ t) h = absurd (omega arith)
added_behind (x ∷ l) zero (b ∷ t) h =
    let more : 0 + suc (length t) ≡ suc (0 + length t) = omega arith in
    rw (more, sets_later b l 0 t) (ap (λ (r : Bytes). b ∷ r) (added_behind l zero t (omega arith)))
added_behind [] (suc at) t h = absurd (omega arith)
added_behind (x ∷ l) (suc at) t h =
    let more : suc at + length t ≡ suc (at + length t) = omega arith in
    rw (more, sets_later x l at t) (ap (λ (r : Bytes). x ∷ r) (added_behind l at t (omega arith)))

-- one more among the words that were put in
joined_more : (ss : List Bytes) (w : Bytes) → joined (ss ++ (w ∷ [])) ≡ joined ss ++ (w ++ (32 ∷ []))
joined_more [] w = append-nil (w ++ (32 ∷ []))
joined_more (s ∷ ss) w = ap (λ (t : Bytes). (s ++ (32 ∷ [])) ++ t) (joined_more ss w) ∙ sym (append_assoc (s ++ (32 ∷ [])) (joined ss) (w ++ (32 ∷ [])))

pub word_added : WordAdded
word_added ss w l at before room =
    let long : length (w ++ (32 ∷ [])) ≡ length w + 1 = length-append w (32 ∷ []) in
    rw (← long) (added_behind l at (w ++ (32 ∷ [])) (omega (arith, long, room)) ∙ ap (λ (t : Bytes). t ++ (w ++ (32 ∷ []))) before ∙ sym (joined_more ss w))

-- past the line's end nothing is put in
pub no_room : (l w : Bytes) (at : ℕ) → length l < at → l ≡ sets l at (w ++ (32 ∷ []))
no_room l w at past = sym (sets_past l at (w ++ (32 ∷ [])) (omega arith))
