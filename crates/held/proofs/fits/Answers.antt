-- `held::fits` meets its contract.
use native.Mathlib.Omega.{arith}
use borrow.Author.Tests.{le-leb, lt-leb}
use Rattle.std.proofs.lemmas.Nat.{one_shl}
use Rattle.report.specs.Report.{sized}
use Rattle.held.specs.Held.{fits}
use Rattle.held.proofs.fits.Goals as goal

pub returns-then-report-le10 : goal.returns-then-report-le10
unfolding fits sized
returns-then-report-le10 c = rw (le-leb _ 10 c.if-report-le10.true, one_shl c.args.report.now.n 64 (omega arith), c.has_node.ensures)

pub returns-else-report-le10 : goal.returns-else-report-le10
unfolding fits sized
returns-else-report-le10 c = rw (lt-leb _ 10 c.if-report-le10.false)
