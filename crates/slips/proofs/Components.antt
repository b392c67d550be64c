-- Each slip of a component's reader parts from the right definition, by computation.
-- Assumes nothing.
use lib.Ieee.{eq, div, of_int, of_bits, of_fields, round, size, span, climb, units, odd}
use lib.Count.{count_trailing_zeros}
use lib.Dec.{eqb}
use lib.IntN.{pos, nat_abs}
use Rattle.vector.specs.Arithmetic.{float1}
use Rattle.vector.specs.Refusals.{bare}
use Rattle.component.specs.Bytes.{twos_complement, f2dot14}
use Rattle.component.specs.Record.{bytes_hold, one_scale_flag, offsets_are_values, offsets_at, scales_at, component_at, read_component}
use Rattle.slips.specs.Components.{ComponentSlips}
use Rattle.slips.proofs.Parts.{told_apart, refuses}

-- all of them
pub component_slips : ComponentSlips
unfolding eq div of_int of_bits of_fields round size span climb units odd count_trailing_zeros twos_complement bytes_hold one_scale_flag offsets_are_values offsets_at scales_at component_at read_component
component_slips = record {
  scales_exchanged = told_apart (λ m. eq m.x.y (f2dot14 (pos 4096))) tt (λ t. t);
  offset_unsigned = told_apart (λ o. eqb (nat_abs o.dy) 2) tt (λ t. t);
  points_first_lem = told_apart (refuses (bare 21)) tt (λ t. t);
  rest_first_lem = told_apart (refuses (bare 21)) tt (λ t. t);
  by_16383 = told_apart (λ x. eq x float1) tt (λ t. t);
  short_by_two = told_apart (λ c. eqb c.after 14) tt (λ t. t);
  index_as_flags = told_apart (λ c. eqb c.flags 0x0082) tt (λ t. t);
  scale_alone_lem = told_apart (λ s. eqb (nat_abs s.yscale) 8192) tt (λ t. t);
  comes_round = told_apart (refuses (bare 20)) tt (λ t. t);
}
