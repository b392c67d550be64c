-- Document 01, 'The exact engine': what the whole-number test gives of a matrix. Assumes nothing.
use Rattle.std.specs.Prelude.{◌≡◌, ℕ, true, false, Result, MatchResult}
use Rattle.vector.specs.declared.refusal.Refusal.{Refusal}
use Rattle.vector.specs.declared.refusal.Refusal.TheVariants.{NotWhole}
use Rattle.engine.specs.Whole.{Floats, whole_entries, numbers, wholes, Alike}
use Rattle.engine.specs.declared.entries.Whole.{Whole}

-- the whole numbers of the entries below the order n, where each is taken, and refusal 6 where one is not
abbrev pub Reads : ℕ → Floats → Result Whole Refusal → Type 0
Reads n e answer =
    MatchResult answer (λ w. (whole_entries 1024 n e ≡ true) × (w.order ≡ n) × Alike n (wholes w.numbers) (numbers e))
    (λ cause. (whole_entries 1024 n e ≡ false) × (cause ≡ NotWhole))
