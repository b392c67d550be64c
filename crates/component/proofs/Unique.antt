-- Any two outcomes that a promise allows are equal: each public function of this crate, over its own promise.
-- Assumes nothing.
use Rattle.vector.proofs.Decided.{Decided, value, meaning}
use Rattle.component.proofs.Answers.{outcome_one}
use Rattle.component.proofs.fault.Fault
use Rattle.component.proofs.read as reading

pub read : Decided reading.Reads.Learnt
read = meaning outcome_one

pub fault_number : Decided Fault.number.Reads.Learnt
fault_number = value
