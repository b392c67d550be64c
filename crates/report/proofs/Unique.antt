-- Any two outcomes that a promise allows are equal: each public function of this crate, over its own promise.
-- Assumes nothing.
use Rattle.std.proofs.Common.{◌≡◌, sym, ◌∙◌}
use Rattle.vector.proofs.Decided.{Decided, DecidedLent, value}
use Rattle.report.proofs
use Rattle.report.proofs.totals
use Rattle.report.proofs.words

-- the form of a promise of what writes: the answer, what follows from the rest, and what is lent at exit
pub written : {K : Type 0} {A R S L : K → Type 0} {lent : (κ : K) → S κ → L κ} {answer : (κ : K) → A κ → R κ} {besides : (κ : K) → A κ → R κ → S κ → Type 0} {left : (κ : K) → A κ → L κ}
    → DecidedLent (λ κ a x s. (x ≡ answer κ a) × (besides κ a x s × (lent κ s ≡ left κ a))) lent
written = record { decided = λ κ a x y s t p q. (p.0 ∙ sym q.0, p.1.1 ∙ sym q.1.1) }

-- ---- lib.rt

pub report : DecidedLent proofs.report.Reads.Learnt (λ κ s. s.1.0.now)
report = written

pub verdict_of : Decided proofs.verdict_of.Reads.Learnt
verdict_of = value

pub verdict_line : DecidedLent proofs.verdict_line.Reads.Learnt (λ κ s. s.1.0.now)
verdict_line = written

pub totals_line : DecidedLent proofs.totals_line.Reads.Learnt (λ κ s. s.1.0.now)
totals_line = written

-- ---- words.rt

pub add_word : DecidedLent words.add_word.Reads.Learnt (λ κ s. s.0.now)
add_word = written

-- ---- totals.rt

pub totals_none : Decided totals.Totals.none.Reads.Learnt
totals_none = value

pub totals_counted : Decided totals.Totals.counted.Reads.Learnt
totals_counted = value
