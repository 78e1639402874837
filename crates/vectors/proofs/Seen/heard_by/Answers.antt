-- `vectors::Seen::heard_by` meets its contract: an arm's numbers are the mask and the dimension.
use mathlib.Core.Path.{ap, ap₂, sym, ◌∙◌}
use Prim.Native.Nat.{ℕ}
use Rattle.cube.specs.Count.{count}
use Rattle.safety.specs.Safety.{registered}
use Rattle.vectors.specs.Rounds.{shown, masked, known}
use Rattle.vectors.proofs.Seen.heard_by.Goals as goal

pub returns-in-0-eq10 : goal.returns-in-0-eq10
unfolding known registered masked
returns-in-0-eq10 c =
    let a = c.args in
    c.count.ensures ∙ ap₂ (λ (m n : ℕ). count (registered (masked m) (shown a.self.now.bytes.now) a.a) n) (sym c.in-0-eq10.is-0) (sym c.in-0-eq10.is-1)

pub returns-in-0-default : goal.returns-in-0-default
unfolding known registered masked
returns-in-0-default c =
    let a = c.args in
    c.count-in-0-default.ensures ∙ ap (λ (m : ℕ). count (registered (masked m) (shown a.self.now.bytes.now) a.a) a.self.now.report.n) (sym c.in-0-default.is-0)

pub returns-in_default : goal.returns-in_default
unfolding known registered masked
returns-in_default c = c.count-in_default.ensures
