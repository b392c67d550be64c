-- As many numbers as there is room for are all that is there, the first written last. Assumes nothing.
use Rattle.std.proofs.Common.{[], ◌∷◌}
use Rattle.migthumo.proofs.Flat.{fills_last}
use Rattle.migthumo.proofs.store.Matrix2StoreF64.put.Goals as goal

pub returns : goal.returns
returns c = let m = c.args.self in fills_last m.x.x (m.x.y ∷ m.y.x ∷ m.y.y ∷ []) c.args.out.now c.requires
