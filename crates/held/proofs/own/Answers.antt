-- `held::own` meets its contract.
use mathlib.Core.Path.{ap, sym, ◌∙◌}
use Prim.Native.Nat.{ℕ}
use Rattle.held.specs.Held.{held, own}
use Rattle.held.proofs.Held.{held_none, own_past}
use Rattle.held.proofs.own.Goals as goal

pub returns-in-Some : goal.returns-in-Some
unfolding own
returns-in-Some c = c.has.ensures ∙ ap (λ (w : ℕ). held w c.args.k) (c.in-Some.ensures.lookup.3.1 0)

pub returns-in-None : goal.returns-in-None
returns-in-None c = sym (own_past _ _ _ c.in-None.ensures.lookup.3 ∙ held_none _)
