-- `report::within` meets its contract.
use mathlib.Core.Path.{ap, sym, ◌∙◌}
use lib.Dec.{ltb}
use Rattle.report.specs.Report.{within}
use Rattle.report.proofs.Laws.{word_limit}
use Rattle.report.proofs.within.Goals as goal

pub returns : goal.returns
unfolding within
returns c =
    let a = c.args in
    ap (ltb a.a) c.limit.ensures ∙ sym (word_limit a.n a.a c.ranges.a.fits)
