-- A component in its two outputs: the lengths tested first, then what the record gives or refuses.
-- Assumes nothing.
use mathlib.Core.Path.{◌≡◌, refl}
use mathlib.Core.List.{List}
use Prim.Native.Nat.{ℕ}
use lib.Ieee.{Float}
use Rattle.std.specs.Prelude.{Result, Ok, Err}
use Rattle.vector.specs.Refusals.{means, number_of}
use Rattle.vector.specs.declared.refusal.Refusal.TheVariants.{OutputLength}
use Rattle.bulk.proofs.Checks.{length_right, length_wrong}
use Rattle.component.specs.declared.Component.{Component}
use Rattle.component.specs.declared.fault.Fault.{Fault}
use Rattle.component.specs.Fault as fault
use Rattle.component.specs.Record as component
use Rattle.migthumo.specs.Entries.{code_of, Answers}
use Rattle.migthumo.specs.Flat.{component_numbers}
use Rattle.migthumo.specs.Boundary.{read_component}

module _ {r : ℕ} {entry : List ℕ × List Float} (bytes : List ℕ) (at head m : ℕ) where
  -- either length wrong: nothing is written
  pub head_wrong : r ≡ number_of (means OutputLength) → (head ≡ 3 → ⊥) → Answers r entry entry (read_component bytes at head m)
  unfolding read_component
  head_wrong is ne = rw (length_wrong OutputLength head 3 ne) (record { answer = is; left = refl })

  pub matrix_wrong : r ≡ number_of (means OutputLength) → head ≡ 3 → (m ≡ 9 → ⊥) → Answers r entry entry (read_component bytes at head m)
  unfolding read_component
  matrix_wrong is e ne = rw (length_right OutputLength head 3 e, length_wrong OutputLength m 9 ne) (record { answer = is; left = refl })

  -- both right: what was read decides
  module _ {read : Result Component Fault} (three : head ≡ 3) (nine : m ≡ 9) (reads : fault.outcome read ≡ component.read_component bytes at) where
    pub faulty : {cause : Fault} → read ≡ Err cause → r ≡ code_of (fault.means cause) → Answers r entry entry (read_component bytes at head m)
    unfolding read_component
    faulty e is = rw (length_right OutputLength head 3 three, length_right OutputLength m 9 nine, ← reads, e) (record { answer = is; left = refl })

    pub found : {c : Component} {exit : List ℕ × List Float} → read ≡ Ok c → r ≡ 0 → exit ≡ component_numbers c → Answers r entry exit (read_component bytes at head m)
    unfolding read_component
    found e is put = rw (length_right OutputLength head 3 three, length_right OutputLength m 9 nine, ← reads, e) (record { answer = is; left = put })
