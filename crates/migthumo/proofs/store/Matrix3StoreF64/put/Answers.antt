-- As many numbers as there is room for, written from the start on, are all that is there. Assumes nothing.
use Rattle.migthumo.proofs.Flat.{fills}
use Rattle.migthumo.specs.Flat.{numbers3}
use Rattle.migthumo.proofs.store.Matrix3StoreF64.put.Goals as goal

pub returns : goal.returns
returns c = fills (numbers3 c.args.self) c.args.out.now c.requires
