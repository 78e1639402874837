-- `Way::onward`: the loop keeps that the message is on its walk, and what the boards so far and those ahead come to.
use Rattle.report.specs.Report.{reported}
use Rattle.journey.proofs.Messages.{Under}
use Rattle.journey.proofs.Way.onward.Given as goal

abbrev pub invariant-loop-j : goal.invariant-loop-j
invariant-loop-j l = Under (reported l.fn.self.report.now) l.fn.self.picks.now l.promised l.initial.path l.initial.m l.path l.m l.j
