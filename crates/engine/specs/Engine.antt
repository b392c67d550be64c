-- Document 01, 'The exact engine': what the exact engine answers, said once over the order.
-- Each outcome is refusal 6, or the number, or the yes or no; a cofactor is beyond that paper, and also has refusals 11 and 12 for its place (document 02, No. 1, 'Say column or row'). Assumes nothing.
use Rattle.std.specs.Prelude.{◌≡◌, ℕ, ◌-◌, ◌^◌, Bool, cond, T, ◌↔◌, ℤ, ◌*ℤ◌, ◌==◌, count_ones, unsigned_abs}
use Rattle.vector.specs.declared.refusal.Place.TheVariants.{First}
use Rattle.vector.specs.Refusals.{Outcome, given, refused, bare, refused_for, after}
use Rattle.vector.specs.declared.refusal.Refusal.TheVariants.{NotWhole}
use Rattle.matrix.specs.Places.{column_below, row_below}
use Rattle.matrix.specs.declared.places.Column.{Column}
use Rattle.matrix.specs.declared.places.Row.{Row}
use Rattle.whole.specs.Matrix.{Matrix, times, IsMultiple}
use Rattle.whole.specs.Order.{parity, skip, exact_signed_sum}
use Rattle.engine.specs.Whole.{Floats, whole_entries, AllWhole, numbers}

-- ---- what is answered, for entries up to a limit, which the code has at 1024

-- refusal 6 unless each entry below the order n is a whole number of magnitude at most the limit, by the test of Whole.antt
unfoldable pub taken : (limit n : ℕ) → Floats → Outcome Unit
taken limit n e = cond (whole_entries limit n e) (given tt) (refused_for NotWhole)

-- refusal 6 in plain words: nothing is refused exactly where the exact value of each entry is a whole number of magnitude at most the limit (-0.0 is 0), and it is 6, which has no place, elsewhere; shown in proofs/Taken.antt for every limit below 2 ^ 53
abbrev pub TakenExactly : ℕ → Type 0
TakenExactly limit = (n : ℕ) (e : Floats) → ((taken limit n e ≡ given tt) ↔ AllWhole limit n e) × ((taken limit n e ≡ refused (bare 6)) ↔ ¬ AllWhole limit n e)

-- the signed sum over all column orders: 2, 6 or 24 terms
abbrev pub signed_sum : (limit n : ℕ) → Floats → Outcome ℤ
signed_sum limit n e = after (taken limit n e) (given (exact_signed_sum n (numbers e)))

-- exactly one bit of the number is set
unfoldable pub is_one_bit : ℕ → Bool
is_one_bit magnitude = count_ones magnitude == 1

-- whether a sum is undoable: its magnitude has exactly one bit set
abbrev pub undoable_sum : ℤ → Bool
undoable_sum sum = is_one_bit (unsigned_abs sum)

-- whether the signed sum is undoable
abbrev pub undoable : (limit n : ℕ) → Floats → Outcome Bool
undoable limit n e = after (taken limit n e) (given (undoable_sum (exact_signed_sum n (numbers e))))

-- the cofactor of column c, row r at the order n: the sign of the place times the signed sum without that column and that row
abbrev pub cofactor_of : ℕ → Matrix → ℕ → ℕ → ℤ
cofactor_of n m c r = parity c *ℤ parity r *ℤ exact_signed_sum (n - 1) (λ d s. m (skip c d) (skip r s))

-- the cofactor as an outcome: its place is a column and then a row of one place, 11, first, then 12, first; then refusal 6
abbrev pub cofactor : (limit n : ℕ) → Floats → Column → Row → Outcome ℤ
cofactor limit n e c r = after (column_below n First c) (after (row_below n First r) (after (taken limit n e) (given (cofactor_of n (numbers e) c.0 r.0))))

-- ---- what is claimed of these, beside the promises

-- exactly one bit is set exactly if the number is a power of two; shown in proofs/Bits.antt
abbrev pub OneBitIsPower : Type 0
OneBitIsPower = (n : ℕ) → T (is_one_bit n) ↔ ((k : ℕ) × (n ≡ 2 ^ k))

-- at an order above 0 an inverse's entry as an exact fraction is a cofactor over the sum, columns and rows exchanged: that matrix and m have the sum times the identity as their product, either way round; shown in proofs/Fractions.antt
abbrev pub CofactorsOverSum : ℕ → Matrix → Type 0
CofactorsOverSum n m =
    IsMultiple n (times n m (λ c r. cofactor_of n m r c)) (exact_signed_sum n m)
    × IsMultiple n (times n (λ c r. cofactor_of n m r c) m) (exact_signed_sum n m)
