-- A turn takes one factor more. No product passes 2 ^ 40, so none wraps. Assumes nothing.
use Rattle.std.proofs.Common.{◌≡◌, ℕ, get_or, sym, refl, ap, ◌∙◌, subst, add-one, arith, w64, SFits}
use Rattle.whole.specs.Sum.{product as whole-product}
use Rattle.engine.specs.Whole.{wholes}
use Rattle.engine.proofs.Table.{small_below}
use Rattle.engine.proofs.Products.{one_factor, product_fits, product_back, all_factors}
use Rattle.engine.proofs.entries.Whole.down_rows.Goals as goal

pub loop-r-init : goal.loop-r-init
unfolding whole-product
loop-r-init c = refl

pub overflow_mul-product : goal.overflow_mul-product
overflow_mul-product c =
    let s = c.args.self.now in
    let f = one_factor s.order s.few (wholes s.numbers) (small_below _ 4 (wholes s.numbers) s.few s.small) _ c.requires c.loop-r.product-bits _ c.loop-r-test.true c.loop-r.invariant in
    subst (SFits w64) (sym f) (product_fits s.order s.few (wholes s.numbers) (small_below _ 4 (wholes s.numbers) s.few s.small) _ c.requires _ c.loop-r-test.true)

pub loop-r-preserved : goal.loop-r-preserved
loop-r-preserved c =
    let s = c.args.self.now in
    let f = one_factor s.order s.few (wholes s.numbers) (small_below _ 4 (wholes s.numbers) s.few s.small) _ c.requires c.loop-r.product-bits _ c.loop-r-test.true c.loop-r.invariant in
    rw (f, product_back s.order s.few (wholes s.numbers) (small_below _ 4 (wholes s.numbers) s.few s.small) _ c.requires _ c.loop-r-test.true, add-one)

pub returns : goal.returns
returns c =
    let s = c.args.self.now in
    let all : c.loop-r.r ≡ s.order = omega arith in
    c.loop-r.invariant
    ∙ ap (λ (k : ℕ). whole-product k (λ r. wholes s.numbers (get_or c.args.columns r 0) r)) all
    ∙ all_factors s.order s.few (wholes s.numbers) (small_below _ 4 (wholes s.numbers) s.few s.small) _ c.requires
