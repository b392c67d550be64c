-- Each slip of an inverse parts from the right definition, by computation.
-- Assumes nothing.
use mathlib.Core.Bool.{true}
use lib.Count.{count_trailing_zeros}
use lib.Ieee.{add, sub, mul, div, neg, eq, lt, le, of_int, of_bits, of_fields, round, sum, size, span, climb, units, odd, is_nan}
use Rattle.vector.specs.Arithmetic.{◌⊘◌, ◌⊗◌}
use Rattle.matrix.specs.Inverse.{det2, det3, det4, det_sub_proc, nonzero, cofactor, inverse_column}
use Rattle.reference.specs.Table.{whole, negative}
use Rattle.slips.specs.Inverse.{InverseSlips}
use Rattle.slips.proofs.Parts.{told_apart, gives}

-- all of them
pub inverse_slips : InverseSlips
unfolding add sub mul div neg eq lt le of_int of_bits of_fields round sum size span climb units odd count_trailing_zeros is_nan det2 det3 det4 det_sub_proc nonzero cofactor inverse_column
inverse_slips = record {
  transposed4 = told_apart (gives (λ m. eq m.w.x (negative 2))) tt (λ t. t);
  reciprocal2 = told_apart (gives (λ m. eq m.x.x (whole 7 ⊘ whole 35))) tt (λ t. t);
  reciprocal3 = told_apart (gives (λ m. eq m.y.y (whole 7 ⊘ whole 35))) tt (λ t. t);
  divided4 = told_apart (gives (λ m. eq m.z.z (whole 7 ⊗ (whole 1 ⊘ whole 35)))) tt (λ t. t);
  tolerant = told_apart (gives (λ m. true)) tt (λ t. t);
  nan_refused = told_apart (gives (λ m. is_nan m.x.x)) tt (λ t. t);
}
