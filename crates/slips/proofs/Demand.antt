-- The definitions that demand 3 stops: each breaks a line of it at a matrix that is named.
-- Assumes nothing.
use mathlib.Core.Path.{◌≡◌, refl, sym, ap, ◌∙◌, subst}
use Prim.Native.Nat.{ℕ}
use native.Mathlib.Omega.{arith}
use lib.Dec.{T, lit<}
use lib.Count.{count_trailing_zeros}
use lib.IntN.{pos, negsuc, nat_abs}
use lib.Ieee.{Float, binary64, of_bits, of_fields, of_int, to_signed, add, sub, mul, div, neg, eq, round, sum as rounded-sum, size, span, climb, units, odd}
use Rattle.vector.specs.Arithmetic.{float0, float1}
use Rattle.vector.specs.Refusals.{given, bare}
use Rattle.vector.specs.Vectors.{vector2}
use Rattle.matrix.specs.Records.{new4, from_diagonal2, zero2, identity2}
use Rattle.matrix.specs.Arithmetic.{mul2, mul4}
use Rattle.matrix.specs.Inverse.{det3, det_sub_proc, det4, nonzero}
use Rattle.matrix.specs.declared.records.Matrix2.{Matrix2}
use Rattle.matrix.specs.declared.records.Matrix4.{Matrix4}
use Rattle.whole.specs.Sum.{product, sum_over}
use Rattle.whole.specs.Order.{orders, down_rows, exact_signed_sum}
use Rattle.exact.specs.Value.{Equal}
use Rattle.exact.proofs.Value.{exact_unique}
use Rattle.exact.proofs.Literals.{exact_one}
use Rattle.engine.specs.Whole.{is_whole, whole_entries, floats2, floats4}
use Rattle.engine.specs.Demand.{port2, port4, WholeEntries, sum_of, DeterminantIsSum, RefusedExactly, InverseUndoes}
use Rattle.slips.specs.Demand.{invert2_refuses_all, invert2_identity, det2_fixed, inverse4_unsigned, invert4_unsigned, with_invert, with_determinant, DemandSlips}

-- ---- order 2: the identity, zero, and [2,0][0,1]

-- 2.0
abbrev two : Float
two = of_bits binary64 0x4000_0000_0000_0000

-- twice along the first axis
abbrev double : Matrix2
double = from_diagonal2 (vector2 two float1)

-- they are whole
identity_whole : WholeEntries port2 1024 identity2
unfolding whole_entries is_whole to_signed of_int of_bits eq
identity_whole = tt

zero_whole : WholeEntries port2 1024 zero2
unfolding whole_entries is_whole to_signed of_int of_bits eq
zero_whole = tt

double_whole : WholeEntries port2 1024 double
unfolding whole_entries is_whole to_signed of_int of_bits eq
double_whole = tt

-- and their sums are 1, 0 and 2
identity_sum : sum_of port2 identity2 ≡ pos 1
unfolding exact_signed_sum orders sum_over down_rows product to_signed of_bits
identity_sum = refl

zero_sum : sum_of port2 zero2 ≡ pos 0
unfolding exact_signed_sum orders sum_over down_rows product to_signed of_bits
zero_sum = refl

double_sum : sum_of port2 double ≡ pos 2
unfolding exact_signed_sum orders sum_over down_rows product to_signed of_bits
double_sum = refl

-- an invert that refuses everything is stopped by line 2, at the identity
refuses_all : ¬ RefusedExactly (with_invert port2 invert2_refuses_all) 1024
refuses_all demand =
    let none : pos 1 ≡ pos 0 = sym identity_sum ∙ ((demand identity2 identity_whole (bare 2)).0 refl).1 in
    let no : ◌≡◌ {A = ℕ} 1 0 = ap nat_abs none in omega arith

-- [2,0][0,1] times the identity is not the identity
doubled : T (eq (floats2 (mul2 double identity2) 0 0) float1) → ⊥
unfolding of_bits of_fields add mul eq round rounded-sum size span climb units odd count_trailing_zeros
doubled t = t

-- one that hands out the identity is stopped by line 3, there
gives_identity : ¬ InverseUndoes (with_invert port2 invert2_identity) 1024 32768
gives_identity demand =
    let s = demand double double_whole (1, ap nat_abs double_sum) in
    let is : s.0 ≡ identity2 = cc in
    doubled (subst (λ (i : Matrix2). Equal (floats2 (mul2 double i) 0 0) float1) is (s.2.matrix_times_inverse 0 0 (lit< tt) (lit< tt)))

-- a determinant fixed at 1 is stopped by line 1, at zero
determinant_one : ¬ DeterminantIsSum (with_determinant port2 det2_fixed) 1024
determinant_one demand =
    let e : pos 1 ≡ pos 0 = exact_unique (exact_one binary64) (demand zero2 zero_whole) ∙ zero_sum in
    let no : ◌≡◌ {A = ℕ} 1 0 = ap nat_abs e in omega arith

-- ---- order 4

-- the first two axes exchanged
abbrev exchange : Matrix4
exchange =
    new4
    float0 float1 float0 float0
    float1 float0 float0 float0
    float0 float0 float1 float0
    float0 float0 float0 float1

-- the matrix is whole, and its sum is -1
exchange_whole : WholeEntries port4 1024 exchange
unfolding whole_entries is_whole to_signed of_int of_bits eq
exchange_whole = tt

exchange_sum : sum_of port4 exchange ≡ negsuc 0
unfolding exact_signed_sum orders sum_over down_rows product to_signed of_bits
exchange_sum = refl

-- what it gives
abbrev answer : Matrix4
answer = inverse4_unsigned exchange (det4 exchange)

-- that is the answer
answered : invert4_unsigned exchange ≡ given answer
unfolding det4 det_sub_proc nonzero of_bits of_fields add sub mul neg eq round rounded-sum size span climb units odd count_trailing_zeros
answered = refl

-- the matrix times that is not the identity
exchanged : T (eq (floats4 (mul4 exchange answer) 0 0) float1) → ⊥
unfolding det3 det4 det_sub_proc of_bits of_fields add sub mul div neg eq round rounded-sum size span climb units odd count_trailing_zeros
exchanged t = t

-- an order 4 inverse without the sign is stopped by line 3
no_sign : ¬ InverseUndoes (with_invert port4 invert4_unsigned) 1024 64
no_sign demand =
    let s = demand exchange exchange_whole (0, ap nat_abs exchange_sum) in
    let both : given answer ≡ given s.0 = sym answered ∙ s.1 in
    let is : s.0 ≡ answer = cc in
    exchanged (subst (λ (i : Matrix4). Equal (floats4 (mul4 exchange i) 0 0) float1) is (s.2.matrix_times_inverse 0 0 (lit< tt) (lit< tt)))

-- all of them
pub demand_slips : DemandSlips
demand_slips = record { refuses_all = refuses_all; gives_identity = gives_identity; determinant_one = determinant_one; no_sign = no_sign }
