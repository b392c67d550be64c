-- The column, the row and the entries are tested in this order. Assumes nothing.
use Rattle.std.proofs.Common.{rules, ap, le_trans, arith}
use Rattle.vector.specs.Refusals.{given}
use Rattle.vector.proofs.Checks.{within, outside}
use Rattle.engine.proofs.Outcomes.{taken_yes, taken_no, cofactor_ext}
use Rattle.engine.proofs.Signed.{back}
use Rattle.engine.proofs.cofactors.cofactor.Goals as goal

pub returns-then-ORDER-c : goal.returns-then-ORDER-c
returns-then-ORDER-c g c = rw (outside _ _ c.args.c.0 (rw c.ORDER.ensures at c.if-ORDER-c.true))

pub returns-then-ORDER-r : goal.returns-then-ORDER-r
returns-then-ORDER-r g c = rw (within _ _ c.args.c.0 (rw c.ORDER.ensures at c.if-ORDER-c.false), outside _ _ c.args.r.0 (rw c.ORDER-2.ensures at c.if-ORDER-r.true))

pub returns-in_err-read : goal.returns-in_err-read
returns-in_err-read g c = rw (within _ _ c.args.c.0 (rw c.ORDER.ensures at c.if-ORDER-c.false), within _ _ c.args.r.0 (rw c.ORDER-2.ensures at c.if-ORDER-r.false), taken_no 1024 _ _ c.in_err-read.ensures.0) (search rules)

pub returns : goal.returns
returns g c =
    let w = c.in_ok-read.ensures in
    let h = rw c.ORDER.ensures at c.if-ORDER-c.false in
    let l = rw c.ORDER-2.ensures at c.if-ORDER-r.false in
    rw (within _ _ c.args.c.0 h, within _ _ c.args.r.0 l, taken_yes 1024 _ _ w.0, back _ c.cofactor.type_inv, c.cofactor.ensures, w.1) (ap given (cofactor_ext _ (le_trans (omega arith) g.met.M.SquareMatrix.at_least) _ _ w.2 c.args.c.0 c.args.r.0 h l))
