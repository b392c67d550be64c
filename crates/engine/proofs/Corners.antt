-- A matrix of order 2 or 3 in the top left corner of the identity of order 4: its entries are there, and those besides are taken.
-- Assumes nothing.
use Rattle.std.proofs.Common.{◌≡◌, Bool, true, false, ◌&&◌, refl, sym, subst}
use lib.Ieee.{eq, of_bits, of_int, to_signed}
use Rattle.vector.specs.Arithmetic.{float0, float1}
use Rattle.matrix.specs.Records.{embed24, embed34}
use Rattle.matrix.specs.declared.records.Matrix2.{Matrix2}
use Rattle.matrix.specs.declared.records.Matrix3.{Matrix3}
use Rattle.matrix.specs.declared.records.Matrix4.{Matrix4}
use Rattle.engine.specs.Whole.{is_whole, whole_entries, floats2, floats3, floats4, Alike, Corner}
use Rattle.engine.proofs.Places.{below_two, below_three}

-- 0 and 1 are taken
whole_zero : is_whole 1024 float0 ≡ true
unfolding is_whole to_signed of_int of_bits eq
whole_zero = refl

whole_one : is_whole 1024 float1 ≡ true
unfolding is_whole to_signed of_int of_bits eq
whole_one = refl

-- a test with nothing after it
and_true : (b : Bool) → b && true ≡ b
and_true true = refl
and_true false = refl

-- the entries besides the matrix are taken
rest2 : (m : Matrix2) → whole_entries 1024 4 (floats4 (embed24 m)) ≡ whole_entries 1024 2 (floats2 m)
unfolding whole_entries
rest2 m = simp (whole_zero, whole_one, and_true)

rest3 : (m : Matrix3) → whole_entries 1024 4 (floats4 (embed34 m)) ≡ whole_entries 1024 3 (floats3 m)
unfolding whole_entries
rest3 m = simp (whole_zero, whole_one, and_true)

-- the entries in the corner are the matrix's
alike2 : (m : Matrix2) → Alike 2 (floats4 (embed24 m)) (floats2 m)
alike2 m c r h l =
    below_two (λ c. floats4 (embed24 m) c r ≡ floats2 m c r)
    (below_two (λ r. floats4 (embed24 m) 0 r ≡ floats2 m 0 r) refl refl r l)
    (below_two (λ r. floats4 (embed24 m) 1 r ≡ floats2 m 1 r) refl refl r l)
    c h

alike3 : (m : Matrix3) → Alike 3 (floats4 (embed34 m)) (floats3 m)
alike3 m c r h l =
    below_three (λ c. floats4 (embed34 m) c r ≡ floats3 m c r)
    (below_three (λ r. floats4 (embed34 m) 0 r ≡ floats3 m 0 r) refl refl refl r l)
    (below_three (λ r. floats4 (embed34 m) 1 r ≡ floats3 m 1 r) refl refl refl r l)
    (below_three (λ r. floats4 (embed34 m) 2 r ≡ floats3 m 2 r) refl refl refl r l)
    c h

-- so the matrix stands in the corner
pub corner2 : (m : Matrix2) (w : Matrix4) → w ≡ embed24 m → Corner 2 (floats2 m) (floats4 w)
corner2 m w is = subst (λ (w : Matrix4). Corner 2 (floats2 m) (floats4 w)) (sym is) (rest2 m, alike2 m)

pub corner3 : (m : Matrix3) (w : Matrix4) → w ≡ embed34 m → Corner 3 (floats3 m) (floats4 w)
corner3 m w is = subst (λ (w : Matrix4). Corner 3 (floats3 m) (floats4 w)) (sym is) (rest3 m, alike3 m)
