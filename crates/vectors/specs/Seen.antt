-- For Fill's private functions: the cube that a round reads.
use Rattle.report.specs.Health.{Cube}
use Rattle.report.specs.Report.{reported}
use Rattle.vectors.specs.Rounds.{known}
use Rattle.vectors.specs.declared.Seen.{Seen}

abbrev pub seen : Seen → Cube
seen s = known (reported s.report) s.masks.now
