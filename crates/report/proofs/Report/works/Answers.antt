-- `Report::works` meets its contract.
use mathlib.Core.Path.{sym}
use Rattle.report.specs.Report.{works}
use Rattle.report.proofs.Laws.{works_past}
use Rattle.report.proofs.Report.works.Goals as goal

pub returns-in-Some : goal.returns-in-Some
unfolding works
returns-in-Some c = rw (c.is_working.ensures, c.from.ensures, c.in-Some.ensures.lookup.3.1 0)

pub returns-in-None : goal.returns-in-None
returns-in-None c = sym (works_past _ _ c.in-None.ensures.lookup.3)
