-- `report::joint` meets its contract.
use Rattle.report.proofs.Laws.{joint_word}
use Rattle.report.proofs.joint.Goals as goal

pub returns : goal.returns
returns c = joint_word c.args.own c.args.other c.ranges.own.fits c.ranges.other.fits
