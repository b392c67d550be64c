-- Any two outcomes that a promise allows are equal: each public function of this crate, over its own promise.
-- Assumes nothing.
use Rattle.vector.proofs.Decided.{DecidedLent, meaning_lent}
use Rattle.vector.proofs.Answers.{outcome_one}
use Rattle.bulk.proofs

pub move_vectors_lem : DecidedLent proofs.move_vectors.Reads.Learnt (λ κ s. s.1.1.1.0.now)
move_vectors_lem = meaning_lent outcome_one

pub move_points_lem : DecidedLent proofs.move_points.Reads.Learnt (λ κ s. s.1.1.1.0.now)
move_points_lem = meaning_lent outcome_one
