-- `Message::at_source` meets its contract: Wu's rule, case by case.
use mathlib.Core.Path.{◌≡◌, ap, ap₂, sym, ◌∙◌}
use mathlib.Core.Bool.{Bool, true, false}
use Prim.Native.Nat.{ℕ, ◌+◌, ◌-◌, ◌<◌, ◌≤◌}
use native.Mathlib.Omega.{arith}
use Rattle.cube.specs.Bits.{weight}
use Rattle.cube.proofs.Count.{weight_le, weight_none, weight_some}
use Rattle.report.specs.Report.{cut}
use Rattle.held.specs.Held.{own}
use Rattle.rules.specs.Rules.{offer, spare, choose, at_source}
use Rattle.rules.proofs.Rules.{choose_lent, source_away}
use Rattle.routing.specs.declared.Message.{Message}
use Rattle.routing.proofs.Message.at_source.Goals as goal
use Rattle.routing.proofs.Message.at_source.Goals.{After-weight-h}

-- the message, its dimension and its distance
abbrev here : After-weight-h → Message
here c = c.args.self.now

abbrev dim : After-weight-h → ℕ
dim c = c.args.self.now.report.now.n

abbrev far : After-weight-h → ℕ
far c = c.weight-h.result

-- the links that are cut, and the bits held
abbrev links : After-weight-h → ℕ → ℕ → Bool
links c = cut c.args.self.now.report.now.links.now

abbrev bits : After-weight-h → ℕ → ℕ → Bool
bits c = own c.args.self.now.vectors.now

-- the masks P and Q
abbrev P : After-weight-h → ℕ
P c = offer (dim c) (links c) (bits c (far c - 1)) (here c).nav.0 (here c).node.0

abbrev Q : After-weight-h → ℕ
Q c = offer (dim c) (links c) (bits c (far c + 1)) (spare (dim c) (here c).nav.0) (here c).node.0

-- short of the destination the distance is not 0, and at most 10
away : (c : After-weight-h) → 0 < far c
away c = omega (arith, c.weight-h.ensures, weight_some _ _ (here c).nav_inside (sym c.arrived.ensures ∙ c.if-arrived.false))

near : (c : After-weight-h) → far c ≤ 10
near c = omega (arith, c.weight-h.ensures, weight_le _ _ (here c).nav_inside, (here c).small)

-- so the rule chooses by the own bit, P and Q
rule : (c : After-weight-h) (t : Bool) (p : ℕ) → t ≡ bits c (far c) (here c).node.0 → p ≡ P c
    → choose t p (Q c) (far c) ≡ at_source (dim c) (links c) (bits c) (here c).node.0 (here c).nav.0 (weight (here c).nav.0)
rule c t p is_own is_p =
    ap₂ (λ (b : Bool) (m : ℕ). choose b m (Q c) (far c)) is_own is_p
    ∙ sym (source_away (dim c) (links c) (bits c) (here c).node.0 (here c).nav.0 (far c) (λ z. omega (arith, away c)))
    ∙ ap (at_source (dim c) (links c) (bits c) (here c).node.0 (here c).nav.0) c.weight-h.ensures

pub returns-then-arrived : goal.returns-then-arrived
unfolding at_source
returns-then-arrived c = rw (weight_none _ (sym c.arrived.ensures ∙ c.if-arrived.true))

pub overflow_sub-h : goal.overflow_sub-h
overflow_sub-h c = omega (arith, away (goal.at.overflow_sub-h c).After-weight-h)

pub mask-p-requires : goal.mask-p-requires
mask-p-requires c = omega (arith, near (goal.at.mask-p-requires c).After-weight-h)

pub returns-then-own : goal.returns-then-own
returns-then-own c =
    let s = (goal.at.returns-then-own c).After-weight-h in
    c.assured.ensures (Q s)
    ∙ rule s true c.mask-p.result (sym c.if-own.true ∙ c.own.ensures) c.mask-p.ensures

pub returns-then-p-ne0 : goal.returns-then-p-ne0
returns-then-p-ne0 c =
    let s = (goal.at.returns-then-p-ne0 c).After-weight-h in
    sym (choose_lent c.mask-p.result (Q s) (far s) c.if-p-ne0.true)
    ∙ rule s false c.mask-p.result (sym c.if-own.false ∙ c.own.ensures) c.mask-p.ensures

pub overflow_add-h : goal.overflow_add-h
overflow_add-h c = omega (arith, near (goal.at.overflow_add-h c).After-weight-h)

pub mask-requires : goal.mask-requires
mask-requires c = omega (arith, near (goal.at.mask-requires c).After-weight-h)

pub detour-requires : goal.detour-requires
detour-requires c = omega (arith, near (goal.at.detour-requires c).After-weight-h)

pub returns : goal.returns
returns c =
    let s = (goal.at.returns c).After-weight-h in
    c.detour.ensures
    ∙ ap (λ (q : ℕ). choose false 0 q (far s)) (c.mask.ensures ∙ ap (λ (x : ℕ). offer (dim s) (links s) (bits s (far s + 1)) x (here s).node.0) c.spare.ensures)
    ∙ rule s false 0 (sym c.if-own.false ∙ c.own.ensures) (sym c.if-p-ne0.false ∙ c.mask-p.ensures)
