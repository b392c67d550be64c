-- Each arm is the one law of its order. Assumes nothing.
use Rattle.std.proofs.Common.{rules, arith}
use Rattle.vector.specs.Refusals.{given}
use Rattle.matrix.specs.Arithmetic.{mul2, mul3, mul4}
use Rattle.migthumo.proofs.Entries.{two2, two3, two4, none2}
use Rattle.migthumo.proofs.arithmetic.migthumo_product.Goals as goal
use Rattle.migthumo.proofs.arithmetic.migthumo_product.Goals.{in-2, in-3, in-4, in_default}

pub returns : goal.returns
returns c =
    let is = c.answered.ensures in
    elim c.match-order.branch [
      | in-2 w ↦ two2 is w.answered-is w.out-is _ _ _ _ _ _ w.in-2.is (w.of_two.ensures (λ x y. given (mul2 x y)) (λ x y r p. search rules))
      | in-3 w ↦ two3 is w.answered-is w.out-is _ _ _ _ _ _ w.in-3.is (w.of_two-in-3.ensures (λ x y. given (mul3 x y)) (λ x y r p. search rules))
      | in-4 w ↦ two4 is w.answered-is w.out-is _ _ _ _ _ _ w.in-4.is (w.of_two-in-4.ensures (λ x y. given (mul4 x y)) (λ x y r p. search rules))
      | in_default w ↦ none2 is w.answered-is w.out-is _ _ _ _ _ _ (λ e. omega arith) (λ e. omega arith) (λ e. omega arith)
    ]
