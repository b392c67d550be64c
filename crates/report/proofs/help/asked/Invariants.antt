-- The words that are left decide. Assumes nothing.
use Rattle.std.proofs.Common.{◌≡◌}
use Rattle.report.specs.Words.{some, words, is_help}
use Rattle.report.proofs.help.asked.Given as goal

abbrev pub invariant-loop-word : goal.invariant-loop-word
invariant-loop-word l = some is_help (words l.word-iterator.line.now) ≡ some is_help (words l.fn.line)
