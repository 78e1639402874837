-- `text::put_lines` meets its contract.
use mathlib.Core.Path.{◌≡◌}
use native.Mathlib.Omega.{arith}
use lib.ListN.{length}
use Rattle.lines.specs.Text.{joined}
use Rattle.lines.proofs.Placing.{puts_none, puts_then}
use Rattle.lines.proofs.Text.{joined_next}
use Rattle.text.specs.Listing.{line_of}
use Rattle.text.proofs.put_lines.Goals as goal

pub loop-a-init : goal.loop-a-init
unfolding joined
loop-a-init c = puts_none _

pub loop-a-preserved : goal.loop-a-preserved
unfolding line_of
loop-a-preserved c = rw (joined_next, ← c.from.ensures) (puts_then c.loop-a.invariant c.put_line.ensures)

pub returns : goal.returns
returns c =
    let e : c.loop-a.a ≡ length c.args.report.now.status.now = omega (arith, c.loop-a.auto.a-end) in
    rw (← e) c.loop-a.invariant
