-- A turn writes the exchanged column over the one that stood there. Assumes nothing.
use Rattle.std.proofs.Common.{arith, ◌<◌, ◌∙◌, length, length-set}
use Rattle.std.proofs.lemmas.List.{get_or_default}
use Rattle.std.proofs.lemmas.List.Edits.{map_over_more}
use Rattle.std.specs.Float.{nan}
use Rattle.matrix.specs.Places.{exchange}
use Rattle.matrix.proofs.places.rows_swapped.Goals as goal

pub loop-column-preserved : goal.loop-column-preserved
loop-column-preserved g c =
    let i = c.loop-column.invariant in
    let inside : c.loop-column.column-index < length c.loop-column.column-items = omega (arith, i.1, c.loop-column-test.true) in
    (i.0, length-set _ _ _ ∙ i.1, rw (c.exchanged.ensures nan) (map_over_more (λ column. exchange nan c.args.a c.args.b column) c.args.m _ _ _ (omega (arith, i.0, c.loop-column-test.true)) i.2 (get_or_default _ _ _ _ inside)))
