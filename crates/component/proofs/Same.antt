-- Bytes that agree from two places on: what is read of a record there agrees too, and so it does of the bytes from a place on.
-- Assumes nothing.
use mathlib.Core.Path.{◌≡◌, refl, sym, ap}
use mathlib.Core.Bool.{Bool, true, false, cond}
use mathlib.Core.List.{List, [], ◌∷◌}
use Prim.Native.Nat.{ℕ, ◌+◌, ◌*◌, ◌≤◌, ◌<◌}
use native.Mathlib.Omega.{arith}
use lib.Dec.{eqb}
use lib.ListN.{get_or, drop}
use lib.Seq.{get_or-drop}
use borrow.Author.Tests.{eqb-true}
use Rattle.component.specs.declared.Component.{Component}
use Rattle.component.specs.Bytes.{byte, word, twos_complement}
use Rattle.component.specs.Record.{bit, offset_size, offsets_from, scales_from, size, short, tiny, offsets_at, scales_at, matrix_of, component_at}

-- alike on either side of a test
either_same : {A : Type 0} (b : Bool) {x y x' y' : A} → (b ≡ true → x ≡ x') → (b ≡ false → y ≡ y') → cond b x y ≡ cond b x' y'
either_same true p q = p refl
either_same false p q = q refl

-- ---- bytes that agree

-- the n bytes at `to` are those at `at`
module _ (bytes others : List ℕ) (at to n : ℕ) (same : (k : ℕ) → k < n → byte others (to + k) ≡ byte bytes (at + k)) where
  byte_same : (k i j : ℕ) → i ≡ at + k → j ≡ to + k → k < n → byte others j ≡ byte bytes i
  byte_same k i j p q h = rw (p, q) (same k h)

  pub word_same : (k i j : ℕ) → i ≡ at + k → j ≡ to + k → k + 2 ≤ n → word others j ≡ word bytes i
  word_same k i j p q h = rw (byte_same k i j p q (omega arith), byte_same (k + 1) (i + 1) (j + 1) (omega arith) (omega arith) (omega arith))

  short_same : (k i j : ℕ) → i ≡ at + k → j ≡ to + k → k + 2 ≤ n → short others j ≡ short bytes i
  short_same k i j p q h = ap (twos_complement 16) (word_same k i j p q h)

  tiny_same : (k i j : ℕ) → i ≡ at + k → j ≡ to + k → k < n → tiny others j ≡ tiny bytes i
  tiny_same k i j p q h = ap (twos_complement 8) (byte_same k i j p q h)

  -- the offsets, by their width
  pub offsets_same : (flags : ℕ) → 4 + 2 * offset_size flags ≤ n → offsets_at others (offsets_from to) flags ≡ offsets_at bytes (offsets_from at) flags
  unfolding offsets_at
  offsets_same flags h =
      either_same (eqb (bit flags 0x0001) 1)
      (λ e. let one = eqb-true (bit flags 0x0001) 1 e in
      rw (short_same 4 (at + 4) (to + 4) refl refl (omega arith), short_same 6 (at + 4 + 2) (to + 4 + 2) (omega arith) (omega arith) (omega arith)))
      (λ e. rw (tiny_same 4 (at + 4) (to + 4) refl refl (omega arith), tiny_same 5 (at + 4 + 1) (to + 4 + 1) (omega arith) (omega arith) (omega arith)))

  -- the scale at a distance from the scales' place
  scale_same : (flags d : ℕ) → 4 + 2 * offset_size flags + d + 2 ≤ n → short others (scales_from to flags + d) ≡ short bytes (scales_from at flags + d)
  scale_same flags d h = short_same (4 + 2 * offset_size flags + d) (scales_from at flags + d) (scales_from to flags + d) (omega arith) (omega arith) h

  -- the first of them
  first_same : (flags : ℕ) → 4 + 2 * offset_size flags + 2 ≤ n → short others (scales_from to flags) ≡ short bytes (scales_from at flags)
  first_same flags h = short_same (4 + 2 * offset_size flags) (scales_from at flags) (scales_from to flags) (omega arith) (omega arith) h

  -- the scales, by their count
  pub scales_same : (flags : ℕ) → size flags ≤ n → scales_at others (scales_from to flags) flags ≡ scales_at bytes (scales_from at flags) flags
  unfolding scales_at
  scales_same flags h =
      either_same (eqb (bit flags 0x0008) 1)
      (λ e. let one = eqb-true (bit flags 0x0008) 1 e in rw (first_same flags (omega arith)))
      (λ _. either_same (eqb (bit flags 0x0040) 1)
      (λ e. let two = eqb-true (bit flags 0x0040) 1 e in rw (first_same flags (omega arith), scale_same flags 2 (omega arith)))
      (λ _. either_same (eqb (bit flags 0x0080) 1)
      (λ e. let four = eqb-true (bit flags 0x0080) 1 e in
      rw (first_same flags (omega arith), scale_same flags 2 (omega arith), scale_same flags 4 (omega arith), scale_same flags 6 (omega arith)))
      (λ _. refl)))

-- ---- from a place on

module _ (bytes rest : List ℕ) (at : ℕ) (is : rest ≡ drop at bytes) where
  agree : (k : ℕ) → byte bytes (at + k) ≡ byte rest (0 + k)
  agree k = let from_start : 0 + k ≡ k = omega arith in rw (is, from_start) (sym (get_or-drop at bytes k 0))

  -- the first two bytes are the word at the place
  pub first : word (get_or rest 0 0 ∷ get_or rest 1 0 ∷ []) 0 ≡ word bytes at
  first = sym (word_same rest bytes 0 at 2 (λ k _. agree k) 0 0 at refl (omega arith) (omega arith))

  -- what is read of them is the component at the place
  pub placed : (flags : ℕ) → ◌≡◌ {A = Component} (record { flags = flags; index = word rest 2; after = at + size flags; matrix = matrix_of (scales_at rest (scales_from 0 flags) flags) (offsets_at rest (offsets_from 0) flags) }) (component_at bytes at flags)
  unfolding component_at
  placed flags =
      let n = size flags in
      rw (word_same rest bytes 0 at n (λ k _. agree k) 2 2 (at + 2) refl refl (omega arith), scales_same rest bytes 0 at n (λ k _. agree k) flags (omega arith), offsets_same rest bytes 0 at n (λ k _. agree k) flags (omega arith))

-- ---- the scales, in the bytes that they begin

module _ (l : List ℕ) (s : ℕ) where
  dropped : (i j : ℕ) → j ≡ s + i → short (drop s l) i ≡ short l j
  dropped i j is =
      let next : s + i + 1 ≡ s + (i + 1) = omega arith in
      rw (is, next, get_or-drop s l i 0, get_or-drop s l (i + 1) 0) refl

  pub scales_first : (flags : ℕ) → scales_at (drop s l) 0 flags ≡ scales_at l s flags
  unfolding scales_at
  scales_first flags = rw (dropped 0 s (omega arith), dropped 2 (s + 2) refl, dropped 4 (s + 4) refl, dropped 6 (s + 6) refl) refl
