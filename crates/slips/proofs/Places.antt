-- Each slip of a row, a swap or a zero parts from the right definition, by computation.
-- Assumes nothing.
use lib.Ieee.{eq, of_int, of_bits, of_fields, round, size, span, climb, units, odd}
use lib.Count.{count_trailing_zeros}
use Rattle.vector.specs.declared.refusal.Place.TheVariants.{First}
use Rattle.vector.specs.Refusals.{placed, below_limit}
use Rattle.matrix.specs.Places.{rows_below, columns_below, elements_below}
use Rattle.reference.specs.Table.{whole}
use Rattle.slips.specs.Places.{PlaceSlips}
use Rattle.slips.proofs.Parts.{told_apart, gives, refuses}

-- all of them
pub place_slips : PlaceSlips
unfolding eq of_int of_bits of_fields round size span climb units odd count_trailing_zeros below_limit rows_below columns_below elements_below
place_slips = record {
  row_first2 = told_apart (gives (λ v. eq v.y (whole 1))) tt (λ t. t);
  equal_accepted = told_apart (refuses (placed 11 First)) tt (λ t. t);
  left_as_was = told_apart (λ m. eq m.x.x (whole 4)) tt (λ t. t);
  wrong_zero = told_apart (λ m. eq m.y.y (whole 0)) tt (λ t. t);
  rows_first = told_apart (refuses (placed 11 First)) tt (λ t. t);
  second_named = told_apart (refuses (placed 12 First)) tt (λ t. t);
  row_as_column = told_apart (refuses (placed 12 First)) tt (λ t. t);
  element_as_column = told_apart (refuses (placed 12 First)) tt (λ t. t);
}
