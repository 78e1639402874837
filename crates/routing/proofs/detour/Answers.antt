-- `routing::detour` meets its contract.
use mathlib.Core.Path.{sym}
use Rattle.rules.specs.Rules.{choose}
use Rattle.rules.proofs.Rules.{choose_detour}
use Rattle.routing.proofs.detour.Goals as goal

pub returns-then-q-eq0 : goal.returns-then-q-eq0
unfolding choose
returns-then-q-eq0 c = rw c.if-q-eq0.true

pub returns : goal.returns
returns c = sym (choose_detour c.args.q c.args.hops c.if-q-eq0.false)
