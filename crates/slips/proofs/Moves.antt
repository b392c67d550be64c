-- Each slip of a bulk move parts from the right definition, by computation.
-- Assumes nothing.
use mathlib.Core.List.{flat_map}
use lib.Count.{count_trailing_zeros}
use lib.Ieee.{add, mul, eq, of_int, of_bits, of_fields, round, sum, size, span, climb, units, odd}
use Rattle.vector.specs.Vectors.{entry}
use Rattle.bulk.specs.Groups.{each}
use Rattle.vector.specs.Refusals.{bare}
use Rattle.bulk.specs.Refusals.{order_from, number_is, move_fits}
use Rattle.bulk.specs.Moves.{flat2, flat3, vector_by2, point_by3}
use Rattle.reference.specs.Table.{whole}
use Rattle.slips.specs.Moves.{MoveSlips}
use Rattle.slips.proofs.Parts.{told_apart, gives, refuses}

-- all of them
pub move_slips : MoveSlips
unfolding add mul eq of_int of_bits of_fields round sum size span climb units odd count_trailing_zeros flat_map each order_from number_is move_fits flat2 flat3 vector_by2 point_by3
move_slips = record {
  writes_nothing_lem = told_apart (gives (λ l. eq (entry l 0) (whole 2))) tt (λ t. t);
  first_moved_lem = told_apart (gives (λ l. eq (entry l 2) (whole 6))) tt (λ t. t);
  last_skipped_lem = told_apart (gives (λ l. eq (entry l 2) (whole 6))) tt (λ t. t);
  refused_after_writing = told_apart (λ l. eq (entry l 0) (whole 0)) tt (λ t. t);
  output_first_lem = told_apart (refuses (bare 3)) tt (λ t. t);
  order_five = told_apart (refuses (bare 5)) tt (λ t. t);
  extended_by_zero = told_apart (λ p. eq p.x (whole 8)) tt (λ t. t);
}
