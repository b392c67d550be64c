-- One byte, from 2 to 4. Assumes nothing.
use Rattle.std.proofs.Common.{◌≡◌, length, arith}
use Rattle.report.proofs.Reading.{one_byte, other_byte, other_length}
use Rattle.report.proofs.grid.Order.of.Goals as goal

pub returns-in_default : goal.returns-in_default
returns-in_default c = other_length _ (λ e. omega (arith, e, c.in_default.len_below))

pub returns-in_default-2 : goal.returns-in_default-2
returns-in_default-2 c = other_length _ (λ e. omega (arith, e, c.in_default.len_at_least))

pub returns-in-50 : goal.returns-in-50
returns-in-50 c = rw (one_byte c.args.word.now (omega (arith, c.in-len1.len_at_least, c.in-len1.len_below)), c.in-50.is)

pub returns-in-51 : goal.returns-in-51
returns-in-51 c = rw (one_byte c.args.word.now (omega (arith, c.in-len1.len_at_least, c.in-len1.len_below)), c.in-51.is)

pub returns-in-52 : goal.returns-in-52
returns-in-52 c = rw (one_byte c.args.word.now (omega (arith, c.in-len1.len_at_least, c.in-len1.len_below)), c.in-52.is)

pub returns-in_default-digit : goal.returns-in_default-digit
returns-in_default-digit c =
    let long : length c.args.word.now ≡ 1 = omega (arith, c.in-len1.len_at_least, c.in-len1.len_below) in
    other_byte c.args.word.now long (λ e. omega arith) (λ e. omega arith) (λ e. omega arith)
