-- The entries are exact: a whole number of 16 bits or fewer is one of binary64, and so is that over 16384.
-- Assumes nothing.
use mathlib.Core.Path.{◌≡◌, refl, subst}
use mathlib.Core.Bool.{Bool, true, false, cond}
use mathlib.Core.List.{List}
use Prim.Native.Nat.{ℕ, zero, suc, ◌+◌, ◌-◌, ◌^◌, ◌≤◌, ◌<◌}
use native.Mathlib.Nat.{le_trans, le_of_lt, lt_of_le_of_lt}
use native.Mathlib.Omega.{arith}
use lib.Count.{count_trailing_zeros}
use lib.Dec.{ltb, eqb, lit<, lit≤}
use borrow.Author.Tests.{lt-ltb}
use lib.IntN.{ℤ, pos, nat_abs, ◌-ℤ◌}
use lib.Ieee.{binary64, of_int, of_bits, of_fields, div, round, size, span, climb, units, odd}
use Rattle.whole.proofs.Ring.{one_mul}
use Rattle.exact.specs.Value.{Exact, exactly}
use Rattle.exact.proofs.Integers.{exact_integer}
use Rattle.exact.proofs.Quotients.{exact_quotient_by_power}
use Rattle.vector.specs.Arithmetic.{float0, float1}
use Rattle.vector.specs.Refusals.{given}
use Rattle.component.specs.declared.Component.{Component}
use Rattle.component.specs.declared.numbers.Offsets.{Offsets}
use Rattle.component.specs.declared.numbers.Scales.{Scales}
use Rattle.component.specs.Bytes.{byte, word, twos_complement, float16384, f2dot14}
use Rattle.component.specs.Record.{bit, offsets_from, scales_from, short, tiny, offsets_at, scales_at, matrix_of, component_at, read_component}
use Rattle.component.specs.Claims.{AreBytes, Exactly, ReadExactly}
use Rattle.component.proofs.Given.{when_given}

-- ---- signed numbers are small

less : (n range : ℕ) → n < range → range ≤ 65536 → nat_abs (pos n -ℤ pos range) ≤ 65536
less n zero h few = absurd (omega arith)
less n (suc k) h few = simp (lt-ltb n (suc k) h) (omega arith)

pub small : (bits n : ℕ) → n < 2 ^ bits → 2 ^ bits ≤ 65536 → nat_abs (twos_complement bits n) ≤ 65536
unfolding twos_complement
small bits n within few = go (ltb n (2 ^ (bits - 1)))
  where
    go : (b : Bool) → nat_abs (cond b (pos n) (pos n -ℤ pos (2 ^ bits))) ≤ 65536
    go true = le_trans (le_of_lt within) few
    go false = less n (2 ^ bits) within few

-- ---- such a number is exact, and so is that over 16384

pub whole_exact : (z : ℤ) → nat_abs z ≤ 65536 → Exact (of_int binary64 z) z 0
whole_exact z h = exact_integer binary64 z (lt_of_le_of_lt h (lit< tt))

divisor : Exact float16384 (pos 16384) 0
unfolding of_bits
divisor = exactly refl

pub over_exact : (z : ℤ) → nat_abs z ≤ 65536 → Exact (f2dot14 z) z 14
over_exact z h =
    subst (λ (v : ℤ). Exact (f2dot14 z) v 14) (one_mul z)
    (exact_quotient_by_power binary64 14 (whole_exact z h) divisor refl (lt_of_le_of_lt h (lit< tt)) (lit≤ tt))

-- ---- the numbers of a record

record SmallOffsets (o : Offsets) : Type 0 where
  pub dx : nat_abs o.dx ≤ 65536
  pub dy : nat_abs o.dy ≤ 65536

record SmallScales (s : Scales) : Type 0 where
  pub xscale : nat_abs s.xscale ≤ 65536
  pub scale01 : nat_abs s.scale01 ≤ 65536
  pub scale10 : nat_abs s.scale10 ≤ 65536
  pub yscale : nat_abs s.yscale ≤ 65536

-- what holds of both holds of either
either : {A : Type 0} (P : A → Type 0) (b : Bool) {x y : A} → P x → P y → P (cond b x y)
either P true p q = p
either P false p q = q

module _ (bytes : List ℕ) (are : AreBytes bytes) where
  word_below : (i : ℕ) → word bytes i < 65536
  word_below i = omega (arith, are i, are (i + 1))

  short_small : (i : ℕ) → nat_abs (short bytes i) ≤ 65536
  short_small i = small 16 (word bytes i) (word_below i) (lit≤ tt)

  tiny_small : (i : ℕ) → nat_abs (tiny bytes i) ≤ 65536
  tiny_small i = small 8 (byte bytes i) (are i) (lit≤ tt)

  offsets_small : (i flags : ℕ) → SmallOffsets (offsets_at bytes i flags)
  unfolding offsets_at
  offsets_small i flags =
      either SmallOffsets (eqb (bit flags 0x0001) 1)
      (record { dx = short_small i; dy = short_small (i + 2) })
      (record { dx = tiny_small i; dy = tiny_small (i + 1) })

  scales_small : (i flags : ℕ) → SmallScales (scales_at bytes i flags)
  unfolding scales_at
  scales_small i flags =
      either SmallScales (eqb (bit flags 0x0008) 1)
      (record { xscale = short_small i; scale01 = lit≤ tt; scale10 = lit≤ tt; yscale = short_small i })
      (either SmallScales (eqb (bit flags 0x0040) 1)
      (record { xscale = short_small i; scale01 = lit≤ tt; scale10 = lit≤ tt; yscale = short_small (i + 2) })
      (either SmallScales (eqb (bit flags 0x0080) 1)
      (record { xscale = short_small i; scale01 = short_small (i + 2); scale10 = short_small (i + 4); yscale = short_small (i + 6) })
      (record { xscale = lit≤ tt; scale01 = lit≤ tt; scale10 = lit≤ tt; yscale = lit≤ tt })))

-- the matrix of such numbers has them exactly
matrix_exact : (s : Scales) (o : Offsets) → SmallScales s → SmallOffsets o → Exactly (matrix_of s o) s o
matrix_exact s o p q = record {
  xscale = over_exact s.xscale p.xscale;
  scale01 = over_exact s.scale01 p.scale01;
  scale10 = over_exact s.scale10 p.scale10;
  yscale = over_exact s.yscale p.yscale;
  dx = whole_exact o.dx q.dx;
  dy = whole_exact o.dy q.dy;
  last0 = refl;
  last1 = refl;
  last2 = refl;
}

-- ---- what is read

component_exact : (bytes : List ℕ) → AreBytes bytes → (at flags : ℕ)
    → Exactly (component_at bytes at flags).matrix (scales_at bytes (scales_from at flags) flags) (offsets_at bytes (offsets_from at) flags)
unfolding component_at
component_exact bytes are at flags = matrix_exact _ _ (scales_small bytes are (scales_from at flags) flags) (offsets_small bytes are (offsets_from at) flags)

flags_same : (bytes : List ℕ) (at flags : ℕ) → (component_at bytes at flags).flags ≡ flags
unfolding component_at
flags_same bytes at flags = refl

entries_exact : (bytes : List ℕ) → AreBytes bytes → (at : ℕ) (c : Component) → read_component bytes at ≡ given c
    → Exactly c.matrix (scales_at bytes (scales_from at c.flags) c.flags) (offsets_at bytes (offsets_from at) c.flags)
entries_exact bytes are at c e =
    let g = when_given bytes at c e in
    rw (g.is, flags_same bytes at (word bytes at)) (component_exact bytes are at (word bytes at))

zero_exact : f2dot14 (pos 0) ≡ float0
unfolding of_int of_bits of_fields div round size span climb units odd count_trailing_zeros
zero_exact = refl

one_exact : f2dot14 (pos 16384) ≡ float1
unfolding of_int of_bits of_fields div round size span climb units odd count_trailing_zeros
one_exact = refl

pub read_exactly : ReadExactly
read_exactly = record { entries = entries_exact; zero = zero_exact; one = one_exact }
