-- As many numbers as there is room for, written from the start on, are all that is there. Assumes nothing.
use Rattle.migthumo.proofs.Flat.{fills}
use Rattle.migthumo.specs.Flat.{numbers4}
use Rattle.migthumo.proofs.store.Matrix4StoreF64.put.Goals as goal

pub returns : goal.returns
returns c = fills (numbers4 c.args.self) c.args.out.now c.requires
