-- `Report::is_sized` meets its contract.
use Rattle.report.specs.Report.{sized, all_sized}
use Rattle.report.proofs.Report.is_sized.Goals as goal

pub returns : goal.returns
unfolding all_sized sized
returns c = rw (c.sized.ensures, c.sized-2.ensures, c.sized-3.ensures)
