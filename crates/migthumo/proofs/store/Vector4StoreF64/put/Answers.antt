-- As many numbers as there is room for, written from the start on, are all that is there. Assumes nothing.
use Rattle.migthumo.proofs.Flat.{fills}
use Rattle.vector.specs.Vectors.{entries4}
use Rattle.migthumo.proofs.store.Vector4StoreF64.put.Goals as goal

pub returns : goal.returns
returns c = fills (entries4 c.args.self) c.args.out.now c.requires
