-- Only the report of a matrix whose signed sum has one bit set ends with the sentence that what it moves comes back, since every other ends with other bytes; and of that matrix it is true.
-- Assumes nothing.
use Rattle.std.proofs.Common.{◌≡◌, ℕ, ◌+◌, ◌-◌, ◌*◌, ◌/◌, ◌%◌, ◌≤◌, Bool, true, false, cond, T, eqb, List, ◌++◌, length, get_or, ℤ, nat_abs, sym, refl, ap, ◌∙◌, subst, arith, lit≤, length-append, get_or-append-add}
use Rattle.whole.specs.Matrix.{Matrix}
use Rattle.whole.specs.Order.{exact_signed_sum}
use Rattle.engine.specs.Engine.{is_one_bit}
use Rattle.engine.specs.Demand.{Port, port2, port3, port4}
use Rattle.report.specs.declared.totals.Verdict.{Verdict}
use Rattle.report.specs.declared.totals.Verdict.TheVariants as verdict
use Rattle.report.specs.Text.{Bytes, text, decimal, whole}
use Rattle.report.specs.Words.{some, words, is_help}
use Rattle.report.specs.Entries.{columns, SmallList, Square}
use Rattle.report.specs.Line.{Line, no_order, other_count, not_whole, matrix, line_of}
use Rattle.report.specs.Held.{says, vectors_of, Held, HeldAt}
use Rattle.report.specs.Report.{rows_of, exactness, comes_back, inverse_report, sum_report, matrix_head, sum_head, refusal2, refusal6, order_expected, entries_expected, help, told, report_of}
use Rattle.report.specs.Verdict.{sum_verdict, sum_line, verdict_in, verdict_text}
use Rattle.report.specs.Said.{EndsWithYes, ComesBack, SaidIsTrue}
use Rattle.report.proofs.Held.{comes_back_held}
use Rattle.report.proofs.Signs.{differ}
use Rattle.report.proofs.Lines.{SquareIn, square_in}

-- ---- the last bytes of a text

-- the byte j places before the end
abbrev last : ℕ → Bytes → ℕ
last j t = get_or t (length t - j) 0

-- what stands before a text does not change it
last_of : (j : ℕ) (a s : Bytes) → j ≤ length s → last j (a ++ s) ≡ last j s
last_of j a s h = let at : length (a ++ s) - j ≡ length a + (length s - j) = omega (arith, length-append a s) in ap (λ (i : ℕ). get_or (a ++ s) i 0) at ∙ get_or-append-add a s (length s - j) 0

-- a yes ends with 68 or 64 and a line's end: '6', and then '4' at order 4, '8' elsewhere
record Yes (four : Bool) (t : Bytes) : Type 0 where
  third : last 3 t ≡ 54
  second : last 2 t ≡ cond four 52 56

-- the ending is that of the last part
yes_of : (four : Bool) (a s : Bytes) → 3 ≤ length s → Yes four (a ++ s) → Yes four s
yes_of four a s h ending = record { third = sym (last_of 3 a s h) ∙ ending.third; second = sym (last_of 2 a s (omega arith)) ∙ ending.second }

-- and that of the whole
of_yes : (four : Bool) (a s : Bytes) → 3 ≤ length s → Yes four s → Yes four (a ++ s)
of_yes four a s h ending = record { third = last_of 3 a s h ∙ ending.third; second = last_of 2 a s (omega arith) ∙ ending.second }

-- the sentence of a yes, which has three bytes and more
sentence : (four : Bool) (k : ℕ) → eqb k 4 ≡ four → Yes four (comes_back k true) × (3 ≤ length (comes_back k true))
unfolding comes_back
sentence true k e = rw e (record { third = refl; second = refl }, lit≤ tt)
sentence false k e = rw e (record { third = refl; second = refl }, lit≤ tt)

-- two endings of one text are for one limit
one_limit : (four other : Bool) (t : Bytes) → Yes four t → Yes other t → ◌≡◌ {A = ℕ} (cond four 64 32768) (cond other 64 32768)
one_limit true true t g h = refl
one_limit false false t g h = refl
one_limit true false t g h = let no : ◌≡◌ {A = ℕ} 52 56 = sym g.second ∙ h.second in absurd (omega arith)
one_limit false true t g h = let no : ◌≡◌ {A = ℕ} 56 52 = sym g.second ∙ h.second in absurd (omega arith)

-- ---- the other endings

-- a text that is no yes
abbrev No : Bytes → Type 0
No t = last 3 t ≡ 54 → ⊥

no_order_lem : No order_expected
no_order_lem e = let is : ◌≡◌ {A = ℕ} 109 54 = e in omega arith

no_small : (n place : ℕ) → No (refusal6 n place)
unfolding refusal6
no_small n place e =
    let is : ◌≡◌ {A = ℕ} 50 54 = sym (last_of 3 (text "refusal 6: the entry at column " ++ decimal (place / n) ++ text ", row " ++ decimal (place % n)) (text " (both counted from 0) is not a whole number of magnitude at most 1024\n") (lit≤ tt)) ∙ e in
    omega arith

no_help : No help
unfolding help
no_help e = let is : ◌≡◌ {A = ℕ} 104 54 = e in omega arith

no_inverse : No refusal2
no_inverse e = let is : ◌≡◌ {A = ℕ} 115 54 = e in omega arith

no_exact : (n : ℕ) → No (comes_back n false)
unfolding comes_back
no_exact n e = let is : ◌≡◌ {A = ℕ} 101 54 = e in omega arith

no_entries : (n : ℕ) → No (entries_expected n)
unfolding entries_expected
no_entries n e =
    let is : ◌≡◌ {A = ℕ} 109 54 = sym (last_of 3 (text "expected " ++ decimal (n * n)) (text " whole numbers after the order, column by column\n") (lit≤ tt)) ∙ e in
    omega arith

-- of two texts by a test, the first being no yes
second_of : (four b : Bool) (s t : Bytes) → No s → Yes four (cond b s t) → Yes four t
second_of four true s t no-s ending = absurd (no-s ending.third)
second_of four false s t no-s ending = ending

-- ---- the matrix

-- the last sentence has three bytes and more
long : (n : ℕ) (b : Bool) → 3 ≤ length (comes_back n b)
unfolding comes_back
long n true = (sentence (eqb n 4) n refl).1
long n false = lit≤ tt

module _ (k n : ℕ) (m : Matrix) (s : ℤ) where
  -- it is a yes where one bit of the sum is set, and nowhere else, and the limit is the order's
  by_bit : (b : Bool) → Yes (eqb k 4) (comes_back n b) → T b × (vectors_of n ≡ vectors_of k)
  by_bit true ending = (tt, one_limit (eqb n 4) (eqb k 4) (comes_back n true) (sentence (eqb n 4) n refl).0 ending)
  by_bit false ending = absurd (no_exact n ending.third)

  by_sum : (front : Bytes) (none b : Bool) → Yes (eqb k 4) (front ++ cond none refusal2 (exactness b ++ rows_of true n m s ++ comes_back n b)) → T b × (vectors_of n ≡ vectors_of k)
  by_sum front true b ending = absurd (no_inverse (yes_of (eqb k 4) front refusal2 (lit≤ tt) ending).third)
  by_sum front false b ending =
      let inner = exactness b ++ rows_of true n m s in
      let enough = long n b in
      by_bit b (yes_of (eqb k 4) inner (comes_back n b) enough (yes_of (eqb k 4) front (inner ++ comes_back n b) (omega (arith, length-append inner (comes_back n b))) ending))

  sum_yes : Yes (eqb k 4) (sum_report n m s) → T (is_one_bit (nat_abs s)) × (vectors_of n ≡ vectors_of k)
  unfolding sum_report inverse_report
  sum_yes = by_sum (matrix_head ++ rows_of false n m s ++ sum_head ++ whole s ++ text "\n") (eqb (nat_abs s) 0) (is_one_bit (nat_abs s))

  line_yes : Yes (eqb k 4) (sum_line n s) → T (is_one_bit (nat_abs s)) × (vectors_of n ≡ vectors_of k)
  unfolding sum_line
  line_yes ending = by_bit (is_one_bit (nat_abs s)) (second_of (eqb k 4) (eqb (nat_abs s) 0) refusal2 (comes_back n (is_one_bit (nat_abs s))) no_inverse ending)

-- and where the kind is that of a yes
is_back : Verdict → Bool
is_back verdict.ComesBack = true
is_back verdict.Rounded = false
is_back verdict.Singular = false
is_back verdict.NotWhole = false
is_back verdict.NotRead = false

kind_yes : (s : ℤ) → sum_verdict s ≡ verdict.ComesBack → T (is_one_bit (nat_abs s))
unfolding sum_verdict is_back
kind_yes s is = by_tests (eqb (nat_abs s) 0) (is_one_bit (nat_abs s)) is
  where
    by_tests : (none b : Bool) → cond none verdict.Singular (cond b verdict.ComesBack verdict.Rounded) ≡ verdict.ComesBack → T b
    by_tests true b e = differ (sym (ap is_back e))
    by_tests false true e = tt
    by_tests false false e = differ (sym (ap is_back e))

-- ---- the line

-- what holds at a port holds of a list of its order
at_port : (p : Port) (n : ℕ) (zs : List ℤ) → HeldAt p → SmallList (n * n) zs → T (says n zs) → n ≡ p.order → Held p zs
at_port p n zs held smalls yes-says is = held zs (subst (λ (j : ℕ). SmallList (j * j) zs) is smalls) (subst (λ (j : ℕ). T (says j zs)) is yes-says)

-- a matrix with one bit of its sum set
back : (n limit : ℕ) (zs : List ℤ) → Square n zs → T (says n zs) × (vectors_of n ≡ limit) → ComesBack (matrix n zs) limit
back n limit zs square found =
    record {
      order = n;
      numbers = zs;
      is = refl;
      square = square;
      limit_is = found.1;
      at_order2 = at_port port2 n zs comes_back_held.held2 square.small found.0;
      at_order3 = at_port port3 n zs comes_back_held.held3 square.small found.0;
      at_order4 = at_port port4 n zs comes_back_held.held4 square.small found.0;
    }

-- what a line holds whose report ends so
told_yes : (k : ℕ) (line : Line) → SquareIn line → Yes (eqb k 4) (told line) → ComesBack line (vectors_of k)
unfolding told SquareIn
told_yes k no_order square ending = absurd (no_order_lem ending.third)
told_yes k (other_count n) square ending = absurd (no_entries n ending.third)
told_yes k (not_whole n place) square ending = absurd (no_small n place ending.third)
told_yes k (matrix n zs) square ending = back n (vectors_of k) zs square (sum_yes k n (columns n zs) (exact_signed_sum n (columns n zs)) ending)

-- whose verdict does
verdict_yes : (k : ℕ) (line : Line) → SquareIn line → Yes (eqb k 4) (verdict_text line) → ComesBack line (vectors_of k)
unfolding verdict_text SquareIn
verdict_yes k no_order square ending = absurd (no_order_lem ending.third)
verdict_yes k (other_count n) square ending = absurd (no_entries n ending.third)
verdict_yes k (not_whole n place) square ending = absurd (no_small n place ending.third)
verdict_yes k (matrix n zs) square ending = back n (vectors_of k) zs square (line_yes k n (columns n zs) (exact_signed_sum n (columns n zs)) ending)

-- and whose verdict is of that kind
kind_back : (line : Line) → SquareIn line → verdict_in line ≡ verdict.ComesBack → (k : ℕ) × ComesBack line (vectors_of k)
unfolding verdict_in SquareIn is_back
kind_back no_order square e = differ (sym (ap is_back e))
kind_back (other_count n) square e = differ (sym (ap is_back e))
kind_back (not_whole n place) square e = differ (sym (ap is_back e))
kind_back (matrix n zs) square e = (n, back n (vectors_of n) zs square (kind_yes (exact_signed_sum n (columns n zs)) e, refl))

-- a text that ends with the sentence
ends_so : (k : ℕ) (t : Bytes) → EndsWithYes t k → Yes (eqb k 4) t
ends_so k t ends =
    let last-sentence = sentence (eqb k 4) k refl in
    subst (Yes (eqb k 4)) (sym ends.1) (of_yes (eqb k 4) ends.0 (comes_back k true) last-sentence.1 last-sentence.0)

pub said_is_true : SaidIsTrue
unfolding report_of
said_is_true =
    record {
      in_report = λ line k ends. told_yes k (line_of line) (square_in (words line)) (second_of (eqb k 4) (some is_help (words line)) help (told (line_of line)) no_help (ends_so k (report_of line) ends));
      in_verdict = λ line k ends. verdict_yes k (line_of line) (square_in (words line)) (ends_so k (verdict_text (line_of line)) ends);
      as_kind = λ line e. kind_back (line_of line) (square_in (words line)) e;
    }
