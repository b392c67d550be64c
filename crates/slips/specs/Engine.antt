-- Document 01, 'The exact engine': an engine with one slip in it, where it parts from the definition of `engine`, and tables with one wrong row.
-- Each follows the text of the right definition, in engine/specs, but for the slip. Assumes nothing.
use Rattle.std.specs.Prelude.{ℕ, Bool, cond, ◌&&◌, [], ◌∷◌, map, leb, set, ℤ, pos, nat_abs}
use Rattle.std.specs.Int.Count.{ones}
use Rattle.std.specs.Float.{binary64}
use Rattle.std.specs.Float.Ieee.{whole as castable}
use Rattle.vector.specs.Refusals.{Outcome, given, refused_for, after}
use Rattle.vector.specs.declared.refusal.Refusal.TheVariants.{NotWhole}
use Rattle.matrix.specs.Records.{zero2, new2}
use Rattle.matrix.specs.declared.records.Matrix2.{Matrix2}
use Rattle.whole.specs.Order.{exact_signed_sum}
use Rattle.whole.specs.Claim.{Table, HoldsOrders}
use Rattle.engine.specs.Whole.{Floats, whole_number, all_places, numbers, floats2}
use Rattle.engine.specs.Engine.{taken, signed_sum, undoable}
use Rattle.engine.specs.Orders.{row, rows, order_at, as_row}
use Rattle.reference.specs.Table.{whole, minus_zero}
use Rattle.slips.specs.Parts.{Parts}

-- ---- the slips

-- slip: 1025 is taken
abbrev pub signed_sum_to1025 : ℕ → Floats → Outcome ℤ
signed_sum_to1025 n e = signed_sum 1025 n e

-- slip: −0.0 is refused, as the library's test for a cast does
abbrev pub signed_sum_no_minus_zero : ℕ → Floats → Outcome ℤ
signed_sum_no_minus_zero n e =
    after (cond (all_places n (λ c r. leb (nat_abs (whole_number (e c r))) 1024 && castable binary64 (e c r))) (given tt) (refused_for NotWhole))
    (given (exact_signed_sum n (numbers e)))

-- slip: at most one bit is set, so that zero is undoable
abbrev pub undoable_at_zero : ℕ → Floats → Outcome Bool
undoable_at_zero n e = after (taken 1024 n e) (given (leb (ones (nat_abs (exact_signed_sum n (numbers e)))) 1))

-- slip: a row of the table with its sign turned
abbrev pub sign_turned : Table
sign_turned = map as_row (set rows 1 (row (1 ∷ 0 ∷ 2 ∷ 3 ∷ []) (pos 1)))

-- slip: a row of the table written twice, in another's place
abbrev pub row_twice : Table
row_twice = map as_row (set rows 1 (order_at 0))

-- ---- the inputs: R12's

-- [1025,0][0,1]
abbrev pub beyond : Matrix2
beyond = new2 (whole 1025) (whole 0) (whole 0) (whole 1)

-- [1024,−0.0][0,1]
abbrev pub edge : Matrix2
edge = new2 (whole 1024) minus_zero (whole 0) (whole 1)

-- ---- what is claimed

-- each parts from the right definition, and the tables don't hold each order of four columns once with its right sign
pub record EngineSlips : Type 0 where
  pub takes_1025 : Parts (signed_sum 1024 2) (signed_sum_to1025 2) (floats2 beyond)
  pub refuses_minus_zero : Parts (signed_sum 1024 2) (signed_sum_no_minus_zero 2) (floats2 edge)
  pub zero_undoable : Parts (undoable 1024 2) (undoable_at_zero 2) (floats2 zero2)
  pub sign_turned_lem : ¬ HoldsOrders 4 sign_turned
  pub row_twice_lem : ¬ HoldsOrders 4 row_twice
