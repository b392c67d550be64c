-- Each arm is the law of the two orders that the test leaves there. Assumes nothing.
use Rattle.std.proofs.Common.{rules}
use Rattle.vector.specs.Refusals.{given}
use Rattle.matrix.specs.Records.{embed23, embed24, embed34}
use Rattle.migthumo.proofs.Embeddings.{two_in_three, two_in_four, three_in_four, no_embedding, in_four, last_two}
use Rattle.migthumo.proofs.records.embedded.Goals as goal

pub returns-in_err-check_orders : goal.returns-in_err-check_orders
returns-in_err-check_orders c = no_embedding _ _ _ _ c.in_err-check_orders.ensures (search rules)

pub returns-in-2-eq3 : goal.returns-in-2-eq3
returns-in-2-eq3 c = two_in_three _ _ _ c.in-2-eq3.is-0 c.in-2-eq3.is-1 (c.of_one.ensures (λ x. given (embed23 x)) (λ x r p. search rules))

pub returns-in-2-default : goal.returns-in-2-default
returns-in-2-default c =
    two_in_four _ _ _ c.in-2-default.is-0 (in_four _ _ c.in_ok-check_orders.ensures c.in-2-default.is-0 c.in-2-default.is-1.1) (c.of_one-in-2-default.ensures (λ x. given (embed24 x)) (λ x r p. search rules))

pub returns-in_default : goal.returns-in_default
returns-in_default c =
    let o = last_two _ _ c.in_ok-check_orders.ensures c.in_default.is-0.1 in
    three_in_four _ _ _ o.0 o.1 (c.of_one-in_default.ensures (λ x. given (embed34 x)) (λ x r p. search rules))
