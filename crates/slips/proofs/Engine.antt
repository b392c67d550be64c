-- Each slip of the exact engine parts from the right definition, by computation; a wrong table breaks its own claim at the wrong row.
-- Assumes nothing.
use Prim.Native.Nat.{ℕ}
use mathlib.Core.Path.{◌≡◌, refl}
use mathlib.Core.Bool.{true, not}
use native.Mathlib.Omega.{arith}
use lib.Count.{ones_in, ones, count_trailing_zeros}
use lib.Ieee.{eq, of_int, of_bits, of_fields, to_signed, round, size, span, climb, units, odd, whole}
use Rattle.vector.specs.Refusals.{bare}
use Rattle.whole.specs.Sum.{product, sum_over}
use Rattle.whole.specs.Order.{down_rows, orders, exact_signed_sum}
use Rattle.engine.specs.Whole.{is_whole, whole_entries}
use Rattle.engine.specs.Engine.{taken, is_one_bit}
use Rattle.engine.specs.Orders.{rows}
use Rattle.slips.specs.Engine.{EngineSlips}
use Rattle.slips.proofs.Parts.{told_apart, gives, refuses}

-- all of them
pub engine_slips : EngineSlips
unfolding eq of_int of_bits of_fields to_signed round size span climb units odd count_trailing_zeros whole ones_in ones product sum_over down_rows orders exact_signed_sum is_whole whole_entries taken is_one_bit rows
engine_slips = record {
  takes_1025 = told_apart (refuses (bare 6)) tt (λ t. t);
  refuses_minus_zero = told_apart (gives (λ sum. true)) tt (λ t. t);
  zero_undoable = told_apart (gives not) tt (λ t. t);
  sign_turned_lem = λ held. let wrong = held.signs.1.0 in let none : ◌≡◌ {A = ℕ} 0 1 = cc in omega arith;
  row_twice_lem = λ held. held.lists.once.0.0 refl;
}
