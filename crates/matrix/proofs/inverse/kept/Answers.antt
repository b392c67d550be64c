-- Below four `truncate_n` gives its vector; past it nothing is left out, and the first three stand. Assumes nothing.
use Rattle.matrix.proofs.Kept.{unwrapped}
use Rattle.matrix.proofs.inverse.kept.Goals as goal

pub returns : goal.returns
returns c = rw (c.unwrap_or.ensures, c.new.ensures) (unwrapped _ _ _ c.truncate_n.ensures)
