-- Document 02, No. 2, 'Read component records': a reader with one slip in it, and the bytes at which it parts from the definition of `component`.
-- Each follows the text of the right definition, in component/specs, but for the slip. Assumes nothing.
use Rattle.std.specs.Prelude.{ℕ, ◌+◌, ◌-◌, ◌%◌, ◌^◌, cond, List, [], ◌∷◌, leb, eqb, length, ℤ, pos, Float}
use Rattle.std.specs.Float.{binary64}
use Rattle.std.specs.Float.Ieee.{of_int}
use Rattle.vector.specs.Arithmetic.{◌⊘◌, float0, float1}
use Rattle.vector.specs.Refusals.{Outcome, given, after}
use Rattle.matrix.specs.Records.{new3}
use Rattle.matrix.specs.declared.records.Matrix3.{Matrix3}
use Rattle.component.specs.Bytes.{byte, word, f2dot14}
use Rattle.component.specs.Fault.{faulted}
use Rattle.component.specs.declared.fault.Fault.TheVariants.{RecordEnds}
use Rattle.component.specs.Record.{bit, offsets_from, scales_from, size, bytes_hold, one_scale_flag, offsets_are_values, short, offsets, scales, offsets_at, scales_at, matrix_of, component_at, read_component}
use Rattle.component.specs.declared.Component.{Component}
use Rattle.component.specs.declared.numbers.Offsets.{Offsets}
use Rattle.component.specs.declared.numbers.Scales.{Scales}
use Rattle.reference.specs.Table.{whole}
use Rattle.slips.specs.Parts.{Parts}

-- ---- the slips

-- slip: scale01 and scale10 exchanged
abbrev pub matrix_exchanged : Scales → Offsets → Matrix3
matrix_exchanged s o =
    new3
    (f2dot14 s.xscale) (f2dot14 s.scale10) float0
    (f2dot14 s.scale01) (f2dot14 s.yscale) float0
    (of_int binary64 o.dx) (of_int binary64 o.dy) float1

-- slip: an offset has no sign
abbrev pub offsets_unsigned : List ℕ → (i flags : ℕ) → Offsets
offsets_unsigned bytes i flags =
    cond (eqb (bit flags 0x0001) 1) (offsets (pos (word bytes i)) (pos (word bytes (i + 2))))
    (offsets (pos (byte bytes i)) (pos (byte bytes (i + 1))))

-- slip: 22 is tested before 21
abbrev pub points_first : List ℕ → ℕ → Outcome Component
points_first bytes at =
    let flags = word bytes at in
    after (bytes_hold bytes at 2)
    (after (offsets_are_values flags)
    (after (one_scale_flag flags)
    (after (bytes_hold bytes at (size flags))
    (given (component_at bytes at flags)))))

-- slip: the rest is looked for before 21 and 22 are tested
abbrev pub rest_first : List ℕ → ℕ → Outcome Component
rest_first bytes at =
    let flags = word bytes at in
    after (bytes_hold bytes at 2)
    (after (bytes_hold bytes at (size flags))
    (after (one_scale_flag flags)
    (after (offsets_are_values flags)
    (given (component_at bytes at flags)))))

-- slip: F2Dot14 over 16383
abbrev pub over16383 : ℤ → Float
over16383 n = of_int binary64 n ⊘ whole 16383

-- slip: the place after is short by two
abbrev pub component_short : List ℕ → (at flags : ℕ) → Component
component_short bytes at flags = record {
  flags = flags;
  index = word bytes (at + 2);
  after = at + size flags - 2;
  matrix = matrix_of (scales_at bytes (scales_from at flags) flags) (offsets_at bytes (offsets_from at) flags);
}

-- slip: index and flags exchanged
abbrev pub component_exchanged : List ℕ → (at flags : ℕ) → Component
component_exchanged bytes at flags = record {
  flags = word bytes (at + 2);
  index = flags;
  after = at + size flags;
  matrix = matrix_of (scales_at bytes (scales_from at flags) flags) (offsets_at bytes (offsets_from at) flags);
}

-- slip: one scale is xscale alone
abbrev pub scale_alone : List ℕ → (i flags : ℕ) → Scales
scale_alone bytes i flags =
    cond (eqb (bit flags 0x0008) 1) (scales (short bytes i) (pos 0) (pos 0) (pos 16384))
    (cond (eqb (bit flags 0x0040) 1) (scales (short bytes i) (pos 0) (pos 0) (short bytes (i + 2)))
    (cond (eqb (bit flags 0x0080) 1) (scales (short bytes i) (short bytes (i + 2)) (short bytes (i + 4)) (short bytes (i + 6)))
    (scales (pos 16384) (pos 0) (pos 0) (pos 16384))))

-- slip: the place and what is wanted there are added in 64 bits, so that a large place comes round
abbrev pub bytes_hold_round : List ℕ → (at n : ℕ) → Outcome Unit
bytes_hold_round bytes at n = cond (leb ((at + n) % 2 ^ 64) (length bytes)) (given tt) (faulted RecordEnds)

-- ---- the inputs

-- glyph 36 through four numbers, 0.5, 0.25, -0.25, 0.5, moved by 1 and -2
abbrev pub four_numbers : List ℕ
four_numbers = 0x00 ∷ 0x82 ∷ 0x00 ∷ 0x24 ∷ 0x01 ∷ 0xfe ∷ 0x20 ∷ 0x00 ∷ 0x10 ∷ 0x00 ∷ 0xf0 ∷ 0x00 ∷ 0x20 ∷ 0x00 ∷ []

-- its flags, and its numbers
abbrev pub four_flags : ℕ
four_flags = 0x0082

abbrev pub four_scales : Scales
four_scales = scales_at four_numbers 6 four_flags

abbrev pub four_offsets : Offsets
four_offsets = offsets_at four_numbers 4 four_flags

-- glyph 36 through one scale, 0.5
abbrev pub one_scale : List ℕ
one_scale = 0x00 ∷ 0x0a ∷ 0x00 ∷ 0x24 ∷ 0x01 ∷ 0xfe ∷ 0x20 ∷ 0x00 ∷ []

-- a flags word alone, with two scale flags and point numbers
abbrev pub every_fault : List ℕ
every_fault = 0x00 ∷ 0x48 ∷ []

-- ---- what is claimed

-- each parts from the right definition; no place is past the end more than 2^64 - 1
pub record ComponentSlips : Type 0 where
  pub scales_exchanged : Parts (matrix_of four_scales) (matrix_exchanged four_scales) four_offsets
  pub offset_unsigned : Parts (offsets_at four_numbers 4) (offsets_unsigned four_numbers 4) four_flags
  pub points_first_lem : Parts (read_component every_fault) (points_first every_fault) 0
  pub rest_first_lem : Parts (read_component every_fault) (rest_first every_fault) 0
  pub by_16383 : Parts f2dot14 over16383 (pos 16384)
  pub short_by_two : Parts (component_at four_numbers 0) (component_short four_numbers 0) four_flags
  pub index_as_flags : Parts (component_at four_numbers 0) (component_exchanged four_numbers 0) four_flags
  pub scale_alone_lem : Parts (scales_at one_scale 6) (scale_alone one_scale 6) 0x000a
  pub comes_round : Parts (bytes_hold four_numbers (2 ^ 64 - 1)) (bytes_hold_round four_numbers (2 ^ 64 - 1)) 2
