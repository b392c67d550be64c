-- Each arm drops the element that the definition drops at its n; past them all the number is refused. Assumes nothing.
use Rattle.std.proofs.Common.{◌≤◌, arith, lit<}
use Rattle.vector.proofs.Checks.{within, outside}
use Rattle.vector.proofs.Vector4.truncate_n.Goals as goal

pub returns-in-0 : goal.returns-in-0
returns-in-0 c = rw (c.in-0.is, within _ 4 0 (lit< tt), c.new.ensures)

pub returns-in-1 : goal.returns-in-1
returns-in-1 c = rw (c.in-1.is, within _ 4 1 (lit< tt), c.new-in-1.ensures)

pub returns-in-2 : goal.returns-in-2
returns-in-2 c = rw (c.in-2.is, within _ 4 2 (lit< tt), c.new-in-2.ensures)

pub returns-in-3 : goal.returns-in-3
returns-in-3 c = rw (c.in-3.is, within _ 4 3 (lit< tt), c.new-in-3.ensures)

pub returns-in_default : goal.returns-in_default
returns-in_default c =
    let past : 4 ≤ c.args.n = omega arith in
    rw (outside _ 4 _ past)
