-- As many numbers as there is room for, written from the start on, are all that is there. Assumes nothing.
use Rattle.migthumo.proofs.Flat.{fills}
use Rattle.vector.specs.Vectors.{entries3}
use Rattle.migthumo.proofs.store.Vector3StoreF64.put.Goals as goal

pub returns : goal.returns
returns c = fills (entries3 c.args.self) c.args.out.now c.requires
