-- Each arm is the one law of its order. Assumes nothing.
use Rattle.std.proofs.Common.{rules, arith}
use Rattle.matrix.specs.Places.{swap_rows2, swap_rows3, swap_rows4}
use Rattle.migthumo.specs.Flat.{row_at}
use Rattle.migthumo.proofs.Entries.{one2, one3, one4, none1}
use Rattle.migthumo.proofs.places.migthumo_swap_rows.Goals as goal
use Rattle.migthumo.proofs.places.migthumo_swap_rows.Goals.{in-2, in-3, in-4, in_default}

pub returns : goal.returns
returns c =
    let is = c.answered.ensures in
    elim c.match-order.branch [
      | in-2 w ↦ one2 is w.answered-is w.out-is _ _ _ _ _ w.in-2.is (w.of_one.ensures (λ x. swap_rows2 x (row_at c.args.a) (row_at c.args.b)) (λ x r p. search rules))
      | in-3 w ↦ one3 is w.answered-is w.out-is _ _ _ _ _ w.in-3.is (w.of_one-in-3.ensures (λ x. swap_rows3 x (row_at c.args.a) (row_at c.args.b)) (λ x r p. search rules))
      | in-4 w ↦ one4 is w.answered-is w.out-is _ _ _ _ _ w.in-4.is (w.of_one-in-4.ensures (λ x. swap_rows4 x (row_at c.args.a) (row_at c.args.b)) (λ x r p. search rules))
      | in_default w ↦ none1 is w.answered-is w.out-is _ _ _ _ _ (λ e. omega arith) (λ e. omega arith) (λ e. omega arith)
    ]
