-- A turn writes the digit of one power, if the number reaches it. Assumes nothing.
use Rattle.std.proofs.Common.{◌≡◌, suc, ◌+◌, ◌-◌, arith}
use Rattle.report.proofs.Writing.{digits_turn, digits_end, power_positive}
use Rattle.report.proofs.write.Page.decimal.Goals as goal

pub higher_digit-requires : goal.higher_digit-requires
higher_digit-requires c = power_positive c.loop-j.invariant

pub loop-j-preserved : goal.loop-j-preserved
loop-j-preserved c =
    let left : 19 - c.loop-j._j ≡ suc (19 - (c.loop-j._j + 1)) = omega (arith, c.loop-j-test.true) in
    digits_turn (rw left at c.loop-j.invariant) c.higher_digit.ensures

pub returns : goal.returns
returns c =
    let none : 19 - c.loop-j._j ≡ 0 = omega (arith, c.loop-j-test.false) in
    digits_end (rw none at c.loop-j.invariant) c.put.ensures
