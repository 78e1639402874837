-- `routing::assured` meets its contract.
use mathlib.Core.Path.{sym}
use Rattle.rules.specs.Rules.{choose}
use Rattle.rules.proofs.Rules.{choose_assured}
use Rattle.routing.proofs.assured.Goals as goal

pub returns-then-p-eq0 : goal.returns-then-p-eq0
unfolding choose
returns-then-p-eq0 c = λ q. rw c.if-p-eq0.true

pub returns : goal.returns
returns c = λ q. sym (choose_assured c.args.p q c.args.hops c.if-p-eq0.false)
