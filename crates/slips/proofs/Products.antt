-- Each slip of a product parts from the right definition, by computation.
-- Assumes nothing.
use mathlib.Core.Path.{refl}
use lib.Count.{count_trailing_zeros}
use lib.Ieee.{add, mul, eq, of_int, of_bits, of_fields, round, sum, size, span, climb, units, odd}
use Rattle.matrix.specs.Records.{zero2, zero3, zero4, identity2, identity3, identity4}
use Rattle.matrix.specs.Arithmetic.{mul2, mul3, mul4}
use Rattle.reference.specs.Table.{whole}
use Rattle.slips.specs.Products.{ProductSlips}
use Rattle.slips.proofs.Parts.{told_apart, no_constant}

-- all of them
pub product_slips : ProductSlips
unfolding add mul eq of_int of_bits of_fields round sum size span climb units odd count_trailing_zeros
product_slips = record {
  row_first2 = told_apart (λ m. eq m.x.x (whole 2)) tt (λ t. t);
  gives_r8 = refl;
  vector_row_first3 = told_apart (λ v. eq v.x (whole 28)) tt (λ t. t);
  left2 = told_apart (λ m. eq m.x.x (whole 2)) tt (λ t. t);
  constant2 = no_constant (mul2 identity2) zero2 identity2 (told_apart (λ m. eq m.x.x (whole 0)) tt (λ t. t));
  constant3 = no_constant (mul3 identity3) zero3 identity3 (told_apart (λ m. eq m.x.x (whole 0)) tt (λ t. t));
  constant4 = no_constant (mul4 identity4) zero4 identity4 (told_apart (λ m. eq m.x.x (whole 0)) tt (λ t. t));
}
