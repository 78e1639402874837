-- `journey::journey` meets its contract: its refusals change nothing, and else the route is the one over Fill's vectors.
use mathlib.Core.Path.{◌≡◌, refl, ap, sym, ◌∙◌}
use Prim.Native.Nat.{ℕ}
use Rattle.std.proofs.lemmas.Result.{err_from_is_err_and}
use Rattle.cube.specs.Reply.{Reply, if_accepted}
use Rattle.cube.proofs.Reply.{unless_none, kept_none}
use Rattle.cube.proofs.Refusals.{unless_refusal, kept_refusal, accepts}
use Rattle.report.specs.Report.{Report, reported}
use Rattle.safety.specs.Safety.{vectors_of}
use Rattle.vectors.specs.Fill.{fill, filled}
use Rattle.routing.specs.Decide.{said}
use Rattle.rules.specs.Decide.{decide}
use Rattle.journey.specs.Journey.{Route, leave, route, journey_refusal, journey, outcome, vectors_after, path_by, path_after}
use Rattle.journey.proofs.Refusals.{clear_of_none}
use Rattle.journey.proofs.journey.Goals as goal
use Rattle.journey.proofs.journey.Goals.{Start, After-decide}

-- the report that the call is given
abbrev given : Start → Report
given c = reported c.args.report.now

-- the number by which it is refused before filling
abbrev number : Start → ℕ
number c = journey_refusal (given c) c.args.vectors.now c.args.picks.now c.args.path.now c.args.s.0 c.args.d.0

-- the route over Fill's vectors
abbrev way : Start → Reply Route
way c = route (given c) c.args.picks.now c.args.s.0 c.args.d.0

-- a refusal before filling
pub returns-in_err-tested-clause-answer : goal.returns-in_err-tested-clause-answer
unfolding journey outcome
returns-in_err-tested-clause-answer c =
    let start = (goal.at.returns-in_err-tested-clause-answer c).Start in
    let p = err_from_is_err_and c.from_residual.result c.from_residual.ensures.1 in
    rw (p.1, p.2) (sym (ap outcome (unless_refusal (number start) (way start) _ c.in_err-tested.ensures)))

pub returns-in_err-tested-clause-words : goal.returns-in_err-tested-clause-words
unfolding vectors_after
returns-in_err-tested-clause-words c =
    sym (kept_refusal _ _ _ _ c.in_err-tested.ensures)

pub returns-in_err-tested-clause-boards : goal.returns-in_err-tested-clause-boards
unfolding journey path_after path_by
returns-in_err-tested-clause-boards c =
    let start = (goal.at.returns-in_err-tested-clause-boards c).Start in
    sym (ap (λ (x : Reply Route). path_by x c.args.s.0 c.args.path.now) (unless_refusal (number start) (way start) _ c.in_err-tested.ensures))

-- past the refusals Fill refuses nothing
pub unwrap-requires : goal.unwrap-requires
unfolding fill
unwrap-requires c =
    let k = clear_of_none _ _ _ _ _ _ (sym c.in_ok-tested.ensures) in
    rw (accepts (λ _. tt) _ _ (c.fill.ensures.answer ∙ unless_none _ _ k.fills)) refl

-- and writes the vectors
written : (c : After-decide) → c.fill.new.vectors ≡ vectors_of (reported c.args.report.now)
unfolding filled
written c =
    c.fill.ensures.words ∙ kept_none _ _ _ (clear_of_none _ _ _ _ _ _ (sym c.in_ok-tested.ensures)).fills

-- so the source is decided over them
decided : (c : After-decide) → said c.decide.result ≡ decide (reported c.args.report.now) (vectors_of (reported c.args.report.now)) c.args.s.0 c.args.d.0
decided c = rw (written c) at c.decide.ensures

-- and what comes of the whole is what comes of that
whole : (c : After-decide)
    → journey (reported c.args.report.now) c.args.vectors.now c.args.picks.now c.args.path.now c.args.s.0 c.args.d.0
    ≡ if_accepted (leave (reported c.args.report.now) c.args.picks.now c.args.s.0 c.args.d.0) (said c.decide.result)
unfolding journey route
whole c =
    unless_none _ _ (sym c.in_ok-tested.ensures) ∙ ap (if_accepted (leave (reported c.args.report.now) c.args.picks.now c.args.s.0 c.args.d.0)) (sym (decided c))

-- the vectors afterwards
pub returns-in_err-kind-clause-words : goal.returns-in_err-kind-clause-words
unfolding vectors_after
returns-in_err-kind-clause-words c =
    written (goal.at.returns-in_err-kind-clause-words c).After-decide ∙ sym (kept_none _ _ _ (sym c.in_ok-tested.ensures))

pub returns-clause-words : goal.returns-clause-words
unfolding vectors_after
returns-clause-words c =
    written (goal.at.returns-clause-words c).After-decide ∙ sym (kept_none _ _ _ (sym c.in_ok-tested.ensures))

-- Decide's refusal is handed out
pub returns-in_err-kind-clause-answer : goal.returns-in_err-kind-clause-answer
unfolding outcome if_accepted
returns-in_err-kind-clause-answer c =
    let p = err_from_is_err_and c.from_residual-in_err-kind.result c.from_residual-in_err-kind.ensures.1 in
    rw (p.1, p.2, whole (goal.at.returns-in_err-kind-clause-answer c).After-decide, c.in_err-kind.was) refl

pub returns-in_err-kind-clause-boards : goal.returns-in_err-kind-clause-boards
unfolding path_after path_by if_accepted
returns-in_err-kind-clause-boards c =
    rw (whole (goal.at.returns-in_err-kind-clause-boards c).After-decide, c.in_err-kind.was) refl

-- and its offer goes on
pub invariant_of-way : goal.invariant_of-way
invariant_of-way c =
    let k = clear_of_none _ _ _ _ _ _ (sym c.in_ok-tested.ensures) in
    record { small = k.dim; filled = written (goal.at.invariant_of-way c).After-decide; chosen = k.chosen }

pub depart-hops-requires : goal.depart-hops-requires
depart-hops-requires c =
    let here = (goal.at.depart-hops-requires c).After-decide in
    let k = clear_of_none _ _ _ _ _ _ (sym c.in_ok-tested.ensures) in
    record { room = k.room; accepts = sym (decided here) ∙ ap said c.in_ok-kind.was }

pub returns-clause-answer : goal.returns-clause-answer
unfolding outcome if_accepted leave
returns-clause-answer c =
    rw (whole (goal.at.returns-clause-answer c).After-decide, c.in_ok-kind.was, c.depart-hops.ensures.0) refl

pub returns-clause-boards : goal.returns-clause-boards
unfolding path_after if_accepted
returns-clause-boards c =
    rw (whole (goal.at.returns-clause-boards c).After-decide, c.in_ok-kind.was) c.depart-hops.ensures.1
