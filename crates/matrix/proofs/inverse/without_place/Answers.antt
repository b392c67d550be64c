-- Each arm keeps the columns that the definition keeps at its i; past the last column the first three stand. Assumes nothing.
use Rattle.std.proofs.Common.{arith}
use Rattle.matrix.proofs.Kept.{last_left}
use Rattle.matrix.proofs.inverse.without_place.Goals as goal

pub returns-in_default : goal.returns-in_default
returns-in_default c =
    rw
    (c.from_cols-in_default.ensures, c.kept-in_default.ensures, c.kept-in_default-2.ensures, c.kept-in_default-3.ensures)
    (last_left c.args.t c.args.i c.args.j (λ e. omega arith) (λ e. omega arith) (λ e. omega arith))
