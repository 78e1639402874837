-- `text::put_cube` meets its contract: the lines are over the vectors of the report.
use native.Mathlib.Omega.{arith}
use lib.Pow.{pow_mono}
use Rattle.report.specs.Report.{reported}
use Rattle.lines.proofs.Placing.{puts_then}
use Rattle.text.proofs.Lines.{report_listed}
use Rattle.text.proofs.put_cube.Goals as goal

pub put_lines-requires : goal.put_lines-requires
put_lines-requires c = omega (arith, c.requires.status_size, pow_mono {i = c.args.report.now.n} {j = 10} c.requires.high)

pub returns : goal.returns
returns c =
    let R = reported c.args.report.now in
    rw (← report_listed R c.requires c.vectors_of-vectors.result c.vectors_of-vectors.ensures.words)
    (puts_then c.put_titled.ensures (rw c.requires.status_size at c.put_lines.ensures))
