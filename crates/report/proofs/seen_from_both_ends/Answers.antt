-- `report::seen_from_both_ends` holds.
use Rattle.report.proofs.Laws.{cut_other_end}
use Rattle.report.proofs.seen_from_both_ends.Goals as goal

pub returns : goal.returns
returns c = cut_other_end
