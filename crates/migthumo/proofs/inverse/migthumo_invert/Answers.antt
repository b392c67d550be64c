-- Each arm is the one law of its order. Assumes nothing.
use Rattle.std.proofs.Common.{rules, arith}
use Rattle.matrix.specs.Inverse.{invert2, invert3, invert4}
use Rattle.migthumo.proofs.Entries.{one2, one3, one4, none1}
use Rattle.migthumo.proofs.inverse.migthumo_invert.Goals as goal
use Rattle.migthumo.proofs.inverse.migthumo_invert.Goals.{in-2, in-3, in-4, in_default}

pub returns : goal.returns
returns c =
    let is = c.answered.ensures in
    elim c.match-order.branch [
      | in-2 w ↦ one2 is w.answered-is w.out-is _ _ _ _ _ w.in-2.is (w.of_one.ensures (λ x. invert2 x) (λ x r p. search rules))
      | in-3 w ↦ one3 is w.answered-is w.out-is _ _ _ _ _ w.in-3.is (w.of_one-in-3.ensures (λ x. invert3 x) (λ x r p. search rules))
      | in-4 w ↦ one4 is w.answered-is w.out-is _ _ _ _ _ w.in-4.is (w.of_one-in-4.ensures (λ x. invert4 x) (λ x r p. search rules))
      | in_default w ↦ none1 is w.answered-is w.out-is _ _ _ _ _ (λ e. omega arith) (λ e. omega arith) (λ e. omega arith)
    ]
