-- Each column is what its call gave, at the function f that the closure computes. Assumes nothing.
use Rattle.matrix.proofs.arithmetic.Matrix3VectorSpace.zip.Goals as goal

pub returns : goal.returns
returns g c f h = rw (c.from_cols.ensures, c.zip.ensures f h, c.zip-2.ensures f h, c.zip-3.ensures f h)
