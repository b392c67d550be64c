-- A record's own bytes decide what is read: wherever they stand, and whatever follows them.
-- Assumes nothing.
use mathlib.Core.Path.{◌≡◌, refl, sym, ap, ◌∙◌}
use mathlib.Core.Bool.{Bool, true, false}
use mathlib.Core.List.{List, ◌++◌}
use mathlib.Core.Logic.{◌⊎◌, inl, inr}
use Prim.Native.Nat.{ℕ, ◌+◌, ◌-◌, ◌≤◌, ◌<◌}
use native.Mathlib.Omega.{arith}
use lib.Dec.{leb}
use lib.ListN.{length, get_or, take, drop, length-take, length-drop, length-append, get_or-append}
use lib.Seq.{get_or-take, get_or-drop, length-take-le}
use borrow.Author.Tests.{le-leb, leb-true}
use Rattle.vector.specs.Refusals.{Outcome, given, refused, after}
use Rattle.component.specs.Fault.{faulted}
use Rattle.component.specs.declared.fault.Fault.TheVariants.{RecordEnds}
use Rattle.component.specs.declared.Component.{Component}
use Rattle.component.specs.Bytes.{byte, word}
use Rattle.component.specs.Record.{size, bytes_hold, one_scale_flag, offsets_are_values, component_at, read_component}
use Rattle.component.specs.Claims.{own_bytes, moved_to, Alike, OwnBytesDecide}
use Rattle.component.proofs.Given.{Given, when_given}
use Rattle.component.proofs.Same.{word_same, scales_same, offsets_same}

-- where the n bytes at `to` are those at `at`, the component is the same at its own place
module _ (bytes others : List ℕ) (at to n : ℕ) (same : (k : ℕ) → k < n → byte others (to + k) ≡ byte bytes (at + k)) where
  component_same : (flags : ℕ) → size flags ≤ n → component_at others to flags ≡ moved_to at to (component_at bytes at flags)
  unfolding component_at
  component_same flags h =
      let further : to + size flags ≡ to + (at + size flags - at) = omega arith in
      rw (further, word_same bytes others at to n same 2 (at + 2) (to + 2) refl refl (omega arith), scales_same bytes others at to n same flags h, offsets_same bytes others at to n same flags (omega arith))

-- ---- reading

-- a record that is all there and passes the tests is read
reads : (bytes : List ℕ) (at flags : ℕ) → flags ≡ word bytes at → one_scale_flag flags ≡ given tt → offsets_are_values flags ≡ given tt
    → at + size flags ≤ length bytes → read_component bytes at ≡ given (component_at bytes at flags)
unfolding read_component bytes_hold
reads bytes at flags is scales values room =
    rw (← is, le-leb (at + 2) (length bytes) (omega arith), scales, values, le-leb (at + size flags) (length bytes) room)

-- a part of a list is as long as it was asked to be where there is enough
part_length : (bytes : List ℕ) (at n : ℕ) → at + n ≤ length bytes → length (take n (drop at bytes)) ≡ n
part_length bytes at n h = length-take-le n (drop at bytes) (omega (arith, length-drop at bytes))

-- and only then
part_long : (bytes : List ℕ) (at n : ℕ) → 0 < n → length (take n (drop at bytes)) ≡ n → at + n ≤ length bytes
part_long bytes at n some e = omega (arith, length-take n (drop at bytes), length-drop at bytes)

part_byte : (bytes : List ℕ) (at n k : ℕ) → k < n → get_or (take n (drop at bytes)) k 0 ≡ byte bytes (at + k)
part_byte bytes at n k h = get_or-take n (drop at bytes) k 0 h ∙ get_or-drop at bytes k 0

-- what a given component has: its flags, the place after it, the room
after_is : (bytes : List ℕ) (at flags : ℕ) → (component_at bytes at flags).after ≡ at + size flags
unfolding component_at
after_is bytes at flags = refl

flags_is : (bytes : List ℕ) (at flags : ℕ) → (component_at bytes at flags).flags ≡ flags
unfolding component_at
flags_is bytes at flags = refl

module _ (bytes : List ℕ) (at : ℕ) (c : Component) (e : read_component bytes at ≡ given c) where
  known : Given bytes at c
  known = when_given bytes at c e

  ends_at : c.after ≡ at + size (word bytes at)
  ends_at = ap (λ (d : Component). d.after) known.is ∙ after_is bytes at (word bytes at)

  has_flags : c.flags ≡ word bytes at
  has_flags = ap (λ (d : Component). d.flags) known.is ∙ flags_is bytes at (word bytes at)

  -- the record ends its size further, within the bytes
  ends : (c.after ≡ at + size c.flags) × (c.after ≤ length bytes)
  ends = (ends_at ∙ ap (λ (f : ℕ). at + size f) (sym has_flags), omega (arith, ends_at, known.room))

  long : c.after - at ≡ size (word bytes at)
  long = omega (arith, ends_at)

  own_length : length (own_bytes bytes at c) ≡ c.after - at
  own_length = part_length bytes at (c.after - at) (omega (arith, ends_at, known.room))

  -- where its bytes stand again it is read again
  module _ (others : List ℕ) (to : ℕ) (stand : take (c.after - at) (drop to others) ≡ own_bytes bytes at c) where
    room : to + size (word bytes at) ≤ length others
    room =
        let enough = part_long others to (c.after - at) (omega (arith, long)) (ap length stand ∙ own_length) in
        omega (arith, enough, long)

    agree : (k : ℕ) → k < size (word bytes at) → byte others (to + k) ≡ byte bytes (at + k)
    agree k h =
        let within : k < c.after - at = omega (arith, long) in
        sym (part_byte others to (c.after - at) k within) ∙ (ap (λ (l : List ℕ). get_or l k 0) stand ∙ part_byte bytes at (c.after - at) k within)

    same_flags : word bytes at ≡ word others to
    same_flags = sym (word_same bytes others at to (size (word bytes at)) agree 0 at to (omega arith) (omega arith) (omega arith))

    again : read_component others to ≡ given (moved_to at to c)
    again =
        reads others to (word bytes at) same_flags known.scales known.values room
        ∙ ap given (component_same bytes others at to (size (word bytes at)) agree (word bytes at) (omega arith) ∙ ap (moved_to at to) (sym known.is))

-- two records with the same bytes
alike : (bytes others : List ℕ) (at to : ℕ) (c d : Component) → read_component bytes at ≡ given c → read_component others to ≡ given d
    → own_bytes bytes at c ≡ own_bytes others to d → Alike at to c d
alike bytes others at to c d e f own =
    let lengths : c.after - at ≡ d.after - to = sym (own_length bytes at c e) ∙ (ap length own ∙ own_length others to d f) in
    let there = again bytes at c e others to (ap (λ (n : ℕ). take n (drop to others)) lengths ∙ sym own) in
    let is : d ≡ moved_to at to c = cc in
    record { flags = cc; index = cc; matrix = cc; length = lengths }

-- ---- what follows

-- tests that come first, and a rest that is another only where it refuses
rest_kept : {A : Type 0} (first second : Outcome Unit) (x y z : Outcome A) → (y ≡ x) ⊎ (x ≡ z) → (after first (after second x) ≡ z → ⊥) → after first (after second y) ≡ after first (after second x)
rest_kept (given u) (given v) x y z (inl e) other = e
rest_kept (given u) (given v) x y z (inr e) other = absurd (other e)
rest_kept (given u) (refused why) x y z e other = refl
rest_kept (refused why) second x y z e other = refl

module _ (bytes more : List ℕ) (at : ℕ) where
  longer : length (bytes ++ more) ≡ length bytes + length more
  longer = length-append bytes more

  kept : (n : ℕ) → at + n ≤ length bytes → (k : ℕ) → k < n → byte (bytes ++ more) (at + k) ≡ byte bytes (at + k)
  kept n h k below = get_or-append bytes more 0 (at + k) (omega arith)

  -- in its place nothing moves
  unmoved : (flags : ℕ) → moved_to at at (component_at bytes at flags) ≡ component_at bytes at flags
  unfolding component_at
  unmoved flags = let back : at + (at + size flags - at) ≡ at + size flags = omega arith in rw back

  -- what follows the tests of the flags, with more bytes: the same, or it was 20
  rest : List ℕ → ℕ → Outcome Component
  rest l flags = after (bytes_hold l at (size flags)) (given (component_at l at flags))

  rest_same : (flags : ℕ) → (rest (bytes ++ more) flags ≡ rest bytes flags) ⊎ (rest bytes flags ≡ faulted RecordEnds)
  unfolding rest bytes_hold
  rest_same flags = go (leb (at + size flags) (length bytes)) refl
    where
      go : (b : Bool) → leb (at + size flags) (length bytes) ≡ b → (rest (bytes ++ more) flags ≡ rest bytes flags) ⊎ (rest bytes flags ≡ faulted RecordEnds)
      go true e =
          let enough = leb-true (at + size flags) (length bytes) e in
          inl (rw (e, le-leb (at + size flags) (length (bytes ++ more)) (omega (arith, longer)))
          (ap given (component_same bytes (bytes ++ more) at at (size flags) (kept (size flags) enough) flags (omega arith) ∙ unmoved flags)))
      go false e = inr (rw e)

  -- behind a flags word that is there, both answers are those of the rest
  behind_flags : (l : List ℕ) (flags : ℕ) → at + 2 ≤ length l → word l at ≡ flags → read_component l at ≡ after (one_scale_flag flags) (after (offsets_are_values flags) (rest l flags))
  unfolding read_component bytes_hold rest
  behind_flags l flags h is = rw (le-leb (at + 2) (length l) h, is)

  -- where it is not there the answer is 20
  no_flags : leb (at + 2) (length bytes) ≡ false → read_component bytes at ≡ faulted RecordEnds
  unfolding read_component bytes_hold
  no_flags e = rw e

  -- an answer that is not 20 stays the same whatever follows
  follows : (read_component bytes at ≡ faulted RecordEnds → ⊥) → read_component (bytes ++ more) at ≡ read_component bytes at
  follows other = go (leb (at + 2) (length bytes)) refl
    where
      go : (b : Bool) → leb (at + 2) (length bytes) ≡ b → read_component (bytes ++ more) at ≡ read_component bytes at
      go false e = absurd (other (no_flags e))
      go true e =
          let flags = word bytes at in
          let enough = leb-true (at + 2) (length bytes) e in
          let here = behind_flags bytes flags enough refl in
          let there = behind_flags (bytes ++ more) flags (omega (arith, longer)) (word_same bytes (bytes ++ more) at at 2 (kept 2 enough) 0 at at (omega arith) (omega arith) (omega arith)) in
          there ∙ (rest_kept (one_scale_flag flags) (offsets_are_values flags) (rest bytes flags) (rest (bytes ++ more) flags) _ (rest_same flags) (λ z. other (here ∙ z)) ∙ sym here)

pub own_bytes_decide : OwnBytesDecide
own_bytes_decide = record {
  ends = ends;
  again = λ bytes others at to c e stand. again bytes at c e others to stand;
  alike = alike;
  follows = follows;
}
