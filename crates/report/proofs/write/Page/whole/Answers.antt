-- A number below zero has its sign first. Assumes nothing.
use Rattle.report.proofs.Writing.{then, named}
use Rattle.report.proofs.Signs.{negative_text, other_text}
use Rattle.report.proofs.write.Page.whole.Goals.{then-z-lt0, else-z-lt0}
use Rattle.report.proofs.write.Page.whole.Goals as goal

pub returns : goal.returns
returns c =
    elim c.if-z-lt0.branch [
      | then-z-lt0 w ↦ named (negative_text c.args.z _ c.ranges.z.sfits w.if-z-lt0.true c.magnitude.ensures) (then w.text.ensures (rw w.self-is at c.decimal.ensures))
      | else-z-lt0 w ↦ named (other_text c.args.z _ c.ranges.z.sfits w.if-z-lt0.false c.magnitude.ensures) (rw w.self-is at c.decimal.ensures)
    ]
