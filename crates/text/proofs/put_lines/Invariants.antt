-- `text::put_lines`: the loop keeps that the lines before this one are put.
use Rattle.lines.specs.Text.{joined}
use Rattle.lines.specs.Put.{Puts}
use Rattle.text.specs.Listing.{line_of}
use Rattle.text.specs.Fit.{held_bits}
use Rattle.text.proofs.put_lines.Given as goal

abbrev pub invariant-loop-a : goal.invariant-loop-a
invariant-loop-a l = Puts (joined (line_of l.report.n l.report.status.now (held_bits l.vectors)) l.a) l.initial.page l.page
