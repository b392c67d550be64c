-- What a component that was given says of its record: every test passed, and it is the definition's component.
-- Assumes nothing.
use mathlib.Core.Path.{◌≡◌, refl}
use mathlib.Core.List.{List}
use Prim.Native.Nat.{ℕ, ◌+◌, ◌≤◌}
use native.Mathlib.Omega.{arith}
use lib.Dec.{leb}
use lib.ListN.{length}
use borrow.Author.Tests.{leb-true}
use Rattle.vector.specs.Refusals.{Outcome, given, refused, after}
use Rattle.vector.proofs.Checks.{passed}
use Rattle.component.specs.declared.Component.{Component}
use Rattle.component.specs.Bytes.{word}
use Rattle.component.specs.Record.{size, bytes_hold, one_scale_flag, offsets_are_values, component_at, read_component}

-- a value behind a test: the test passed
pub behind : {A : Type 0} (test : Outcome Unit) (rest : Outcome A) (value : A) → after test rest ≡ given value → (test ≡ given tt) × (rest ≡ given value)
behind (given u) rest value e = (refl, e)
behind (refused why) rest value e = let none : ◌≡◌ {A = ℕ} 0 1 = cc in absurd (omega arith)

-- bytes that hold so many are long enough
pub long_enough : (bytes : List ℕ) (at n : ℕ) → bytes_hold bytes at n ≡ given tt → at + n ≤ length bytes
unfolding bytes_hold
long_enough bytes at n e = leb-true (at + n) (length bytes) (passed (leb (at + n) (length bytes)) _ e)

-- what holds where a component is given
pub record Given (bytes : List ℕ) (at : ℕ) (c : Component) : Type 0 where
  pub scales : one_scale_flag (word bytes at) ≡ given tt
  pub values : offsets_are_values (word bytes at) ≡ given tt
  pub room : at + size (word bytes at) ≤ length bytes
  pub is : c ≡ component_at bytes at (word bytes at)

pub when_given : (bytes : List ℕ) (at : ℕ) (c : Component) → read_component bytes at ≡ given c → Given bytes at c
unfolding read_component
when_given bytes at c e =
    let flags = word bytes at in
    let first = behind (bytes_hold bytes at 2) _ c e in
    let second = behind (one_scale_flag flags) _ c first.1 in
    let third = behind (offsets_are_values flags) _ c second.1 in
    let fourth = behind (bytes_hold bytes at (size flags)) _ c third.1 in
    record { scales = second.0; values = third.0; room = long_enough bytes at (size flags) fourth.0; is = cc }
