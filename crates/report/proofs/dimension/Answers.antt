-- `report::dimension` meets its contract.
use Rattle.report.specs.Report.{dimension}
use mathlib.Core.Path.{refl}
use Rattle.report.proofs.dimension.Goals as goal

pub returns : goal.returns
unfolding dimension
returns c = refl
