-- As many numbers as there is room for are all that is there, the first written last. Assumes nothing.
use Rattle.std.proofs.Common.{[], ◌∷◌}
use Rattle.migthumo.proofs.Flat.{fills_last}
use Rattle.migthumo.proofs.store.Vector2StoreF64.put.Goals as goal

pub returns : goal.returns
returns c = let v = c.args.self in fills_last v.x (v.y ∷ []) c.args.out.now c.requires
