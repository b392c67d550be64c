-- A turn adds one row's term. No partial sum passes 24 * 2 ^ 40, so none wraps. Assumes nothing.
use Rattle.std.proofs.Common.{take, sym, refl, ◌∙◌, subst, le_antisymm, add-one}
use Rattle.whole.specs.Sum.{sum_over}
use Rattle.whole.specs.Order.{Order}
use Rattle.whole.specs.Claim.{table_sum}
use Rattle.engine.specs.declared.orders.Order.{Order as Row}
use Rattle.engine.specs.Whole.{wholes}
use Rattle.engine.proofs.Table.{small_below, row_order, all_rows, handed_count, handed_inside, handed_row}
use Rattle.engine.proofs.Turns.{made_fits, added_fits, added_back}
use Rattle.engine.proofs.entries.Whole.signed_sum.Goals as goal

pub loop-order-init : goal.loop-order-init
unfolding table_sum sum_over
loop-order-init c = refl

pub down_rows-requires : goal.down_rows-requires
down_rows-requires c =
    let s = c.args.self.now in
    let h = handed_inside s.order s.few c.orders-order-items.ensures c.loop-order-test.true in
    subst (λ (o : Row). Order s.order (take s.order o.0)) (sym (handed_row s.order _ c.orders-order-items.ensures h)) (row_order s.order s.few (wholes s.numbers) (small_below _ 4 (wholes s.numbers) s.few s.small) _ h)

pub overflow_mul-sum : goal.overflow_mul-sum
overflow_mul-sum c =
    let s = c.args.self.now in
    let h = handed_inside s.order s.few c.orders-order-items.ensures c.loop-order-test.true in
    made_fits s.order s.few (wholes s.numbers) (small_below _ 4 (wholes s.numbers) s.few s.small) _ h _ (handed_row s.order _ c.orders-order-items.ensures h) _ c.down_rows.ensures c.down_rows.type_inv

pub overflow_add-sum : goal.overflow_add-sum
overflow_add-sum c =
    let s = c.args.self.now in
    let h = handed_inside s.order s.few c.orders-order-items.ensures c.loop-order-test.true in
    added_fits s.order s.few (wholes s.numbers) (small_below _ 4 (wholes s.numbers) s.few s.small) _ h _ (handed_row s.order _ c.orders-order-items.ensures h) _ c.down_rows.ensures c.down_rows.type_inv c.loop-order.sum-bits c.loop-order.invariant

pub loop-order-preserved : goal.loop-order-preserved
loop-order-preserved c =
    let s = c.args.self.now in
    let h = handed_inside s.order s.few c.orders-order-items.ensures c.loop-order-test.true in
    rw add-one (added_back s.order s.few (wholes s.numbers) (small_below _ 4 (wholes s.numbers) s.few s.small) _ h _ (handed_row s.order _ c.orders-order-items.ensures h) _ c.down_rows.ensures c.down_rows.type_inv c.loop-order.sum-bits c.loop-order.invariant)

pub returns : goal.returns
returns c =
    let s = c.args.self.now in
    c.loop-order.invariant ∙ all_rows s.order s.few (wholes s.numbers) _ (le_antisymm c.loop-order.auto.order-index-end c.loop-order-test.false ∙ handed_count s.order s.few c.orders-order-items.ensures)
