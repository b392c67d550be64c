-- The words of a line: what stands between its blanks. Which words are an order, and which are whole numbers.
-- Assumes nothing.
use Rattle.std.specs.Prelude.{◌≡◌, ℕ, suc, ◌+◌, ◌-◌, ◌*◌, ◌≤◌, Bool, true, false, cond, ◌&&◌, ◌||◌, List, [], ◌∷◌, ◌++◌, length, take, ℤ, ◌==◌, nat_le}
use Rattle.std.proofs.lemmas.List.Edits.{sets}
use Rattle.exact.specs.Value.{signed}
use Rattle.report.specs.Text.{Bytes, text}

-- ---- lists and tests

-- the test passes at every member
abbrev pub all : {A : Type 0} → (A → Bool) → List A → Bool
all test [] = true
all test (x ∷ xs) = test x && all test xs

-- the test passes at some member
abbrev pub some : {A : Type 0} → (A → Bool) → List A → Bool
some test [] = false
some test (x ∷ xs) = test x || some test xs

-- how many members stand before the first at which the test fails; all of them where it fails at none
abbrev pub passing : {A : Type 0} → (A → Bool) → List A → ℕ
passing test [] = 0
passing test (x ∷ xs) = cond (test x) (suc (passing test xs)) 0

-- ---- words

-- a space, a tab, or the return that some systems put before the end of a line
unfoldable pub is_blank : ℕ → Bool
is_blank b = b == 32 || (b == 9 || b == 13)

-- a byte before the first of some parts
abbrev pub lead : ℕ → List Bytes → List Bytes
lead b [] = (b ∷ []) ∷ []
lead b (p ∷ ps) = (b ∷ p) ∷ ps

-- the parts of a line, one more than it has blanks: between two blanks that follow each other stands an empty one
unfoldable pub parts : Bytes → List Bytes
parts [] = [] ∷ []
parts (b ∷ s) = cond (is_blank b) ([] ∷ parts s) (lead b (parts s))

-- the parts that are not empty
unfoldable pub kept : List Bytes → List Bytes
kept [] = []
kept ([] ∷ ps) = kept ps
kept ((b ∷ w) ∷ ps) = (b ∷ w) ∷ kept ps

-- the words of a line: its parts that are not empty
abbrev pub words : Bytes → List Bytes
words s = kept (parts s)

-- words as they are put one after another into a line, a blank after each
abbrev pub joined : List Bytes → Bytes
joined [] = []
joined (w ∷ ws) = (w ++ (32 ∷ [])) ++ joined ws

-- the words of some lines, one line after another
abbrev pub all_words : List Bytes → List Bytes
all_words [] = []
all_words (s ∷ ss) = words s ++ all_words ss

-- ---- the word --help

-- the same bytes
unfoldable pub same : Bytes → Bytes → Bool
same [] [] = true
same [] (c ∷ t) = false
same (b ∷ s) [] = false
same (b ∷ s) (c ∷ t) = b == c && same s t

-- the word asks how to use the tool
abbrev pub is_help : Bytes → Bool
is_help w = same w (text "--help")

-- ---- an order

-- the word 2, 3 or 4 as a number, and 0 for any other word
unfoldable pub order_of : Bytes → ℕ
order_of [] = 0
order_of (b ∷ []) = cond (nat_le 50 b && nat_le b 52) (b - 48) 0
order_of (b ∷ c ∷ w) = 0

-- ---- whole numbers: a minus sign or none, then one digit or more; there is no plus sign, zeros may stand in front, and -0 is 0

-- the word has a minus sign
unfoldable pub negative : Bytes → Bool
negative [] = false
negative (b ∷ w) = b == 45

-- the word without its minus sign
unfoldable pub digits_of : Bytes → Bytes
digits_of [] = []
digits_of (b ∷ w) = cond (b == 45) w (b ∷ w)

-- a digit from 0 to 9
abbrev pub is_digit : ℕ → Bool
is_digit b = nat_le 48 b && nat_le b 57

-- the word is a whole number
unfoldable pub is_number : Bytes → Bool
is_number w = nat_le 1 (length (digits_of w)) && all is_digit (digits_of w)

-- the number that some digits continue
unfoldable pub value : ℕ → Bytes → ℕ
value n [] = n
value n (b ∷ w) = value (n * 10 + (b - 48)) w

-- the whole number that a word is, however long
abbrev pub number_of : Bytes → ℤ
number_of w = signed (negative w) (value 0 (digits_of w))

-- the word is a whole number of magnitude at most 1024
unfoldable pub fits : Bytes → Bool
fits w = is_number w && nat_le (value 0 (digits_of w)) 1024

-- ---- what is claimed of these

-- the words of a line that was put together are those of what was put in; shown in proofs/Joining.antt
abbrev pub JoinedWords : Type 0
JoinedWords = (ss : List Bytes) → words (joined ss) ≡ all_words ss

-- a word and its blank, put in behind words that were put in before, where there is room for both: the line begins with all of them; shown in proofs/Joining.antt
abbrev pub WordAdded : Type 0
WordAdded = (ss : List Bytes) (w l : Bytes) (at : ℕ) → take at l ≡ joined ss → at + (length w + 1) ≤ length l → take (at + (length w + 1)) (sets l at (w ++ (32 ∷ []))) ≡ joined (ss ++ (w ∷ []))
