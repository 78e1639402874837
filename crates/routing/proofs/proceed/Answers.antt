-- `routing::proceed` meets its contract.
use mathlib.Core.Path.{sym}
use Rattle.rules.specs.Rules.{proceed}
use Rattle.rules.proofs.Rules.{proceed_some}
use Rattle.routing.proofs.proceed.Goals as goal

pub returns-then-p-eq0 : goal.returns-then-p-eq0
unfolding proceed
returns-then-p-eq0 c = rw c.if-p-eq0.true

pub returns : goal.returns
returns c = sym (proceed_some c.args.p c.if-p-eq0.false)
