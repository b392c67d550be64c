-- A whole number of 64 bits is stored as it is. Assumes nothing.
use Rattle.std.proofs.Common.{arith, ap, ◌∙◌}
use mir.Syntax.{w64}
use mir.Val.{to_z, of_z}
use Rattle.engine.proofs.Signed.{back}
use Rattle.migthumo.specs.Flat.{alone}
use Rattle.migthumo.proofs.Flat.{fills}
use Rattle.migthumo.proofs.store.I64Store.put.Goals as goal

pub returns : goal.returns
returns c = fills (alone (to_z w64 (of_z w64 c.args.self))) c.args.out.now c.requires ∙ ap alone (back c.args.self (omega arith))
