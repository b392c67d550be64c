-- Document 02, No. 2, 'Read component records': one component of an OpenType glyf composite, as its bytes have it.
-- First what the flags say, then the refusals in their order, then what is read. Assumes nothing.
use Rattle.std.specs.Prelude.{ℕ, ◌+◌, ◌*◌, ◌/◌, ◌%◌, cond, List, leb, eqb, length, ℤ, pos}
use Rattle.std.specs.Float.{binary64}
use Rattle.std.specs.Float.Ieee.{of_int}
use Rattle.vector.specs.Arithmetic.{float0, float1}
use Rattle.vector.specs.Refusals.{Outcome, given, after}
use Rattle.matrix.specs.Records.{new3}
use Rattle.matrix.specs.declared.records.Matrix3.{Matrix3}
use Rattle.component.specs.Bytes.{byte, word, twos_complement, f2dot14}
use Rattle.component.specs.Fault.{faulted}
use Rattle.component.specs.declared.fault.Fault.TheVariants.{RecordEnds, ScaleFlags, PointNumbers}
use Rattle.component.specs.declared.Component.{Component}
use Rattle.component.specs.declared.numbers.Offsets.{Offsets}
use Rattle.component.specs.declared.numbers.Scales.{Scales}

-- ---- what the flags say

-- 1 where the flag, a power of two, is set, else 0
abbrev pub bit : (flags flag : ℕ) → ℕ
bit flags flag = flags / flag % 2

-- how many bytes an offset takes: a word with 0x0001, else a byte
abbrev pub offset_size : ℕ → ℕ
offset_size flags = 1 + bit flags 0x0001

-- how many of the scale flags are set
abbrev pub scale_flags : ℕ → ℕ
scale_flags flags = bit flags 0x0008 + bit flags 0x0040 + bit flags 0x0080

-- how many scales there are: one with 0x0008, two with 0x0040, four with 0x0080, else none
abbrev pub scale_count : ℕ → ℕ
scale_count flags = bit flags 0x0008 + 2 * bit flags 0x0040 + 4 * bit flags 0x0080

-- the place of the offsets in a record that stands at `at`, after flags and index; then that of the scales
abbrev pub offsets_from : ℕ → ℕ
offsets_from at = at + 4

abbrev pub scales_from : (at flags : ℕ) → ℕ
scales_from at flags = offsets_from at + 2 * offset_size flags

-- the size of a record by its flags, in bytes: flags, index, two offsets, the scales
abbrev pub size : ℕ → ℕ
size flags = 4 + 2 * offset_size flags + 2 * scale_count flags

-- ---- the refusals

-- 20 unless so many bytes stand at the place
unfoldable pub bytes_hold : List ℕ → (at n : ℕ) → Outcome Unit
bytes_hold bytes at n = cond (leb (at + n) (length bytes)) (given tt) (faulted RecordEnds)

-- 21 where more than one scale flag is set
unfoldable pub one_scale_flag : ℕ → Outcome Unit
one_scale_flag flags = cond (leb (scale_flags flags) 1) (given tt) (faulted ScaleFlags)

-- 22 where 0x0002 is clear: the offsets are point numbers
unfoldable pub offsets_are_values : ℕ → Outcome Unit
offsets_are_values flags = cond (eqb (bit flags 0x0002) 0) (faulted PointNumbers) (given tt)

-- ---- what the bytes say, in whole numbers

-- the signed number of two bytes, and that of one
abbrev pub short : List ℕ → ℕ → ℤ
short bytes i = twos_complement 16 (word bytes i)

abbrev pub tiny : List ℕ → ℕ → ℤ
tiny bytes i = twos_complement 8 (byte bytes i)

-- the offsets of these two numbers, the scales of these four
abbrev pub offsets : (dx dy : ℤ) → Offsets
offsets x y = record { dx = x; dy = y }

abbrev pub scales : (xscale scale01 scale10 yscale : ℤ) → Scales
scales a b c d = record { xscale = a; scale01 = b; scale10 = c; yscale = d }

-- the two offsets at place i, in font units: words with 0x0001, else bytes
unfoldable pub offsets_at : List ℕ → (i flags : ℕ) → Offsets
offsets_at bytes i flags =
    cond (eqb (bit flags 0x0001) 1) (offsets (short bytes i) (short bytes (i + 2)))
    (offsets (tiny bytes i) (tiny bytes (i + 1)))

-- the scales at place i, in 16384ths: one is both, two have 0 in the other places, four are all, and none is 1, 0, 0, 1
unfoldable pub scales_at : List ℕ → (i flags : ℕ) → Scales
scales_at bytes i flags =
    cond (eqb (bit flags 0x0008) 1) (scales (short bytes i) (pos 0) (pos 0) (short bytes i))
    (cond (eqb (bit flags 0x0040) 1) (scales (short bytes i) (pos 0) (pos 0) (short bytes (i + 2)))
    (cond (eqb (bit flags 0x0080) 1) (scales (short bytes i) (short bytes (i + 2)) (short bytes (i + 4)) (short bytes (i + 6)))
    (scales (pos 16384) (pos 0) (pos 0) (pos 16384))))

-- ---- the answer

-- the columns (xscale, scale01, 0), (scale10, yscale, 0), (dx, dy, 1)
abbrev pub matrix_of : Scales → Offsets → Matrix3
matrix_of s o =
    new3
    (f2dot14 s.xscale) (f2dot14 s.scale01) float0
    (f2dot14 s.scale10) (f2dot14 s.yscale) float0
    (of_int binary64 o.dx) (of_int binary64 o.dy) float1

-- the flags, the index, the place after the record and the matrix
unfoldable pub component_at : List ℕ → (at flags : ℕ) → Component
component_at bytes at flags = record {
  flags = flags;
  index = word bytes (at + 2);
  after = at + size flags;
  matrix = matrix_of (scales_at bytes (scales_from at flags) flags) (offsets_at bytes (offsets_from at) flags);
}

-- one component, read at a place: refusal 20 for the flags word, 21, 22, then 20 for the rest
unfoldable pub read_component : List ℕ → ℕ → Outcome Component
read_component bytes at =
    let flags = word bytes at in
    after (bytes_hold bytes at 2)
    (after (one_scale_flag flags)
    (after (offsets_are_values flags)
    (after (bytes_hold bytes at (size flags))
    (given (component_at bytes at flags)))))
