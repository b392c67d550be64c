-- Each call gives the number at its place. Assumes nothing.
use Rattle.std.proofs.Common.{◌+◌, rules}
use lib.Ieee.{nan}
use Rattle.report.specs.Entries.{float_at}
use Rattle.report.proofs.Asking.{made_is}
use Rattle.report.proofs.ask.column.Goals as goal

pub returns : goal.returns
returns g c = made_is _ _ (λ r. float_at c.args.grid.now.entries (c.args.i + r)) nan (λ r x f k. search rules) _ _ c.from_fn.ensures.items
