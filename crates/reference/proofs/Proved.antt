-- Every case of the table holds, by computation from the definitions. Assumes nothing.
use mathlib.Core.Path.{refl}
use lib.Count.{count_trailing_zeros}
use lib.Ieee.{to_signed, add, sub, mul, div, neg, eq, of_int, of_bits, of_fields, round, sum, size, span, climb, units, odd}
use Rattle.vector.specs.Refusals.{below_limit}
use Rattle.matrix.specs.Places.{rows_below, columns_below}
use Rattle.matrix.specs.Inverse.{det2, det3, det4, det_sub_proc, nonzero, cofactor, inverse_column}
use Rattle.whole.specs.Sum.{product, sum_over}
use Rattle.whole.specs.Order.{down_rows, orders, exact_signed_sum}
use Rattle.engine.specs.Whole.{is_whole, whole_entries}
use Rattle.engine.specs.Engine.{taken}
use Rattle.reference.specs.Cases.{Claims}
use Rattle.reference.specs.Table.{table}

-- R1 to R12
pub reference : Claims table
unfolding to_signed add sub mul div neg eq of_int of_bits of_fields round sum size span climb units odd count_trailing_zeros below_limit rows_below columns_below det2 det3 det4 det_sub_proc nonzero cofactor inverse_column product sum_over down_rows orders exact_signed_sum is_whole whole_entries taken
reference = (refl, (refl, (refl, (refl, (refl, (refl, (refl, (refl, (refl, (tt, (refl, (refl, (refl, (refl, (tt, (refl, (refl, (refl, (refl, (refl, tt))))))))))))))))))))
