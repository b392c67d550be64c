-- Any two outcomes that a promise allows are equal: each public function of this crate, over its own promise.
-- Assumes nothing.
use Rattle.vector.proofs.Decided.{Decided, value}
use Rattle.bits.proofs

pub pattern : Decided proofs.pattern.Reads.Learnt
pattern = value

pub number : Decided proofs.number.Reads.Learnt
number = value

pub same : Decided proofs.same.Reads.Learnt
same = value
