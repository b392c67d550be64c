-- A turn writes the digit of one power, if the number reaches it. Assumes nothing.
use Rattle.std.proofs.Common.{◌-◌}
use Rattle.report.proofs.Writing.{Digits}
use Rattle.report.proofs.write.Page.decimal.Given as goal

abbrev pub invariant-loop-j : goal.invariant-loop-j
invariant-loop-j l = Digits l.n l.initial.self l.self l.power (19 - l._j)
