-- The word, and then the blank. Assumes nothing.
use Rattle.std.proofs.Common.{rules}
use Rattle.report.proofs.Writing.{then}
use Rattle.report.proofs.Joining.{no_room}
use Rattle.report.proofs.words.add_word.Goals as goal

pub returns-then-line-at-clause-writes : goal.returns-then-line-at-clause-writes
returns-then-line-at-clause-writes c = no_room _ c.args.word.now _ c.if-line-at.true

pub returns-clause-writes : goal.returns-clause-writes
returns-clause-writes c = let w = (then c.text.ensures c.text-2.ensures).wrote.bytes in search (w, rules)
