-- Document 02, No. 2, 'Read component records': what 'exact' means, and that a record's own bytes decide what is read.
-- To be shown of `read_component` for every list and every place; shown in proofs/. Assumes nothing.
use Rattle.std.specs.Prelude.{ℕ, ◌+◌, ◌-◌, ◌≤◌, ◌<◌, ◌≡◌, List, ◌++◌, pos, length, take, drop}
use Rattle.exact.specs.Value.{Exact}
use Rattle.vector.specs.Arithmetic.{float0, float1}
use Rattle.vector.specs.Refusals.{given}
use Rattle.matrix.specs.declared.records.Matrix3.{Matrix3}
use Rattle.component.specs.Bytes.{byte, f2dot14}
use Rattle.component.specs.Fault.{faulted}
use Rattle.component.specs.declared.fault.Fault.TheVariants.{RecordEnds}
use Rattle.component.specs.Record.{size, offsets_from, scales_from, offsets_at, scales_at, read_component}
use Rattle.component.specs.declared.Component.{Component}
use Rattle.component.specs.declared.numbers.Offsets.{Offsets}
use Rattle.component.specs.declared.numbers.Scales.{Scales}

-- ---- exact

-- each number is one that a byte holds, as in every slice of bytes
abbrev pub AreBytes : List ℕ → Type 0
AreBytes bytes = (i : ℕ) → byte bytes i < 256

-- each entry has the exact value of what was written: a scale over 16384, which is 2 ^ 14, or a whole offset; the last row is 0, 0, 1
pub record Exactly (m : Matrix3) (s : Scales) (o : Offsets) : Type 0 where
  pub xscale : Exact m.x.x s.xscale 14
  pub scale01 : Exact m.x.y s.scale01 14
  pub scale10 : Exact m.y.x s.scale10 14
  pub yscale : Exact m.y.y s.yscale 14
  pub dx : Exact m.z.x o.dx 0
  pub dy : Exact m.z.y o.dy 0
  pub last0 : m.x.z ≡ float0
  pub last1 : m.y.z ≡ float0
  pub last2 : m.z.z ≡ float1

-- the matrix that is read has exactly the numbers that stand in the bytes; where a scale is not written, 0 is 0.0 and 1 is 1.0 to the bit
pub record ReadExactly : Type 0 where
  pub entries : (bytes : List ℕ) → AreBytes bytes → (at : ℕ) (c : Component) → read_component bytes at ≡ given c
      → Exactly c.matrix (scales_at bytes (scales_from at c.flags) c.flags) (offsets_at bytes (offsets_from at) c.flags)
  pub zero : f2dot14 (pos 0) ≡ float0
  pub one : f2dot14 (pos 16384) ≡ float1

-- ---- a record's own bytes

-- the bytes of the record that was read at a place
abbrev pub own_bytes : List ℕ → ℕ → Component → List ℕ
own_bytes bytes at c = take (c.after - at) (drop at bytes)

-- the component of a record that stands elsewhere: its place after moves along, all else is as it was
abbrev pub moved_to : (at elsewhere : ℕ) → Component → Component
moved_to at elsewhere c = record { flags = c.flags; index = c.index; after = elsewhere + (c.after - at); matrix = c.matrix }

-- what two components have in common whose records have the same bytes: flags, index, matrix and length
pub record Alike (at elsewhere : ℕ) (c d : Component) : Type 0 where
  pub flags : c.flags ≡ d.flags
  pub index : c.index ≡ d.index
  pub matrix : c.matrix ≡ d.matrix
  pub length : c.after - at ≡ d.after - elsewhere

-- the record ends within the bytes, its size further; where its bytes stand again, in these or other bytes, it is read again, whatever
-- follows; two records with the same bytes are alike; and an answer that is not 20 stays the same whatever follows
pub record OwnBytesDecide : Type 0 where
  pub ends : (bytes : List ℕ) (at : ℕ) (c : Component) → read_component bytes at ≡ given c → (c.after ≡ at + size c.flags) × (c.after ≤ length bytes)
  pub again : (bytes others : List ℕ) (at elsewhere : ℕ) (c : Component) → read_component bytes at ≡ given c
      → take (c.after - at) (drop elsewhere others) ≡ own_bytes bytes at c → read_component others elsewhere ≡ given (moved_to at elsewhere c)
  pub alike : (bytes others : List ℕ) (at elsewhere : ℕ) (c d : Component) → read_component bytes at ≡ given c → read_component others elsewhere ≡ given d
      → own_bytes bytes at c ≡ own_bytes others elsewhere d → Alike at elsewhere c d
  pub follows : (bytes more : List ℕ) (at : ℕ) → (read_component bytes at ≡ faulted RecordEnds → ⊥) → read_component (bytes ++ more) at ≡ read_component bytes at
