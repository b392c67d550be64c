-- As many numbers as there is room for, written from the start on, are all that is there. Assumes nothing.
use Rattle.migthumo.proofs.Flat.{fills}
use Rattle.migthumo.specs.Flat.{alone}
use Rattle.migthumo.proofs.store.F64Store.put.Goals as goal

pub returns : goal.returns
returns c = fills (alone c.args.self) c.args.out.now c.requires
