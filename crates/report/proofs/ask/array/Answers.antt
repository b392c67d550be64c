-- Each call gives the column at its place. Assumes nothing.
use Rattle.std.proofs.Common.{◌*◌, [], rules}
use Rattle.report.specs.Entries.{floats_from}
use Rattle.report.proofs.Asking.{made_is}
use Rattle.report.proofs.ask.array.Goals as goal

pub returns : goal.returns
returns g c = made_is _ _ (λ k. floats_from (k * g.row.N) g.row.N c.args.grid.now.entries) [] (λ k x f m. search rules) _ _ c.from_fn.ensures.items
