-- One of the numbers is one more, by the kind. Assumes nothing.
use Rattle.report.specs.Verdict.{counted}
use Rattle.report.proofs.totals.Totals.counted.Goals as goal

pub returns-in-ComesBack : goal.returns-in-ComesBack
unfolding counted
returns-in-ComesBack c = rw (c.in-ComesBack.is, c.more.ensures, c.more-in-ComesBack.ensures)

pub returns-in-Rounded : goal.returns-in-Rounded
unfolding counted
returns-in-Rounded c = rw (c.in-Rounded.is, c.more.ensures, c.more-in-Rounded.ensures)

pub returns-in-Singular : goal.returns-in-Singular
unfolding counted
returns-in-Singular c = rw (c.in-Singular.is, c.more.ensures, c.more-in-Singular.ensures)

pub returns-in-NotWhole : goal.returns-in-NotWhole
unfolding counted
returns-in-NotWhole c = rw (c.in-NotWhole.is, c.more.ensures, c.more-in-NotWhole.ensures)

pub returns-in-NotRead : goal.returns-in-NotRead
unfolding counted
returns-in-NotRead c = rw (c.in-NotRead.is, c.more.ensures, c.more-in-NotRead.ensures)
