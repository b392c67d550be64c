-- The sum of what is left, with the sign of its place. Assumes nothing.
use Rattle.engine.specs.Whole.{wholes}
use Rattle.engine.proofs.Minors.{negative_fits, odd_place, even_place}
use Rattle.engine.proofs.entries.Whole.cofactor.Goals as goal

pub overflow_sub-result : goal.overflow_sub-result
overflow_sub-result c =
    let s = c.args.self.now in
    let k = c.minor.result in
    negative_fits s.order k.order s.few (wholes s.numbers) (wholes k.numbers) c.args.c c.args.r c.minor.ensures.order k.small c.minor.ensures.entries _ c.signed_sum-minor.ensures

pub returns-then-c-r-eq1 : goal.returns-then-c-r-eq1
returns-then-c-r-eq1 c =
    let s = c.args.self.now in
    let k = c.minor.result in
    odd_place s.order k.order s.few (wholes s.numbers) (wholes k.numbers) c.args.c c.args.r c.minor.ensures.order k.small c.minor.ensures.entries _ c.signed_sum-minor.ensures c.if-c-r-eq1.true

pub returns-else-c-r-eq1 : goal.returns-else-c-r-eq1
returns-else-c-r-eq1 c =
    let s = c.args.self.now in
    let k = c.minor.result in
    even_place s.order k.order s.few (wholes s.numbers) (wholes k.numbers) c.args.c c.args.r c.minor.ensures.order k.small c.minor.ensures.entries _ c.signed_sum-minor.ensures c.if-c-r-eq1.false
