-- What a function that writes to a lent slice leaves there: a text from a place on, as much of it as there is room for.
-- Assumes nothing.
use Rattle.std.specs.Prelude.{◌≡◌, ℕ, ◌+◌, ◌≤◌, min, length}
use Rattle.std.proofs.lemmas.List.Edits.{sets}
use Rattle.report.specs.declared.write.Page.{Page}
use Rattle.report.specs.Text.{Bytes}

-- the text stands from the place `at` on, all else is as before, and the next place comes after it or is the end
pub record Wrote (before : Bytes) (at : ℕ) (t : Bytes) (after : Bytes) (next : ℕ) : Type 0 where
  pub bytes : after ≡ sets before at t
  pub place : next ≡ min (length before) (at + length t)
  pub within : next ≤ length after
  pub same : length after ≡ length before

-- a page goes on with the text, in the same lent slice
pub record Adds (before : Page) (t : Bytes) (after : Page) : Type 0 where
  pub wrote : Wrote before.out.now before.at t after.out.now after.at
  pub same_slice : after.out.ghost_name ≡ before.out.ghost_name
