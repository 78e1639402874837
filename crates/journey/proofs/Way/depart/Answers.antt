-- `Way::depart` meets its contract: the first hop by the source's mask, and the rest by Hop's.
use mathlib.Core.Path.{◌≡◌, sym, ◌∙◌}
use mathlib.Core.List.{List, ◌∷◌}
use Prim.Native.Nat.{ℕ, ◌+◌, ◌≤◌}
use native.Mathlib.Omega.{arith}
use lib.ListN.{length, set, length-set}
use Rattle.report.specs.Report.{Report, reported}
use Rattle.rules.proofs.Decided.{decide_hops}
use Rattle.routing.specs.Decide.{chosen}
use Rattle.journey.specs.Journey.{leave, path_by}
use Rattle.journey.specs.Message.{Walks, ahead}
use Rattle.journey.specs.declared.Message.{Message}
use Rattle.journey.proofs.Promise.{leave_arrives}
use Rattle.journey.proofs.Messages.{same_offer, path_home, path_whole, sets_out}
use Rattle.journey.proofs.Way.depart.Goals as goal
use Rattle.journey.proofs.Way.depart.Goals.{After-follow-first, After-offer-offer, Start}

-- the report that the call is given
abbrev given : Start → Report
given c = reported c.args.self.now.report.now

-- the boards after the source
abbrev after : Start → List ℕ
after c = (leave (given c) c.args.self.now.picks.now c.args.s.0 c.args.d.0 (chosen c.args.kind)).after

-- n + 1 hops are promised at most, and as many are made as are promised
few : (c : After-offer-offer)
    → let R = reported c.args.self.now.report.now in
    (c.offer-offer.result.hops ≤ c.args.self.now.report.now.n + 1)
    × (c.offer-offer.result.hops ≡ length (leave R c.args.self.now.picks.now c.args.s.0 c.args.d.0 (chosen c.args.kind)).after)
few c =
    let R = reported c.args.self.now.report.now in
    let h = decide_hops _ _ _ _ _ c.requires.accepts in
    let e = c.offer-offer.ensures.hops in
    (omega (arith, e, h), e ∙ sym (leave_arrives R _ _ _ c.args.self.now.picks.now c.requires.accepts (omega (arith, h, c.args.self.now.chosen))).1)

-- the message after its first hop
first : (c : After-follow-first)
    → let R = reported c.args.self.now.report.now in
    let m = c.follow-first.result in
    Walks R c.offer-offer.result.hops 1 m
    × ((leave R c.args.self.now.picks.now c.args.s.0 c.args.d.0 (chosen c.args.kind)).after ≡ m.node.0 ∷ ahead R c.args.self.now.picks.now 1 m)
first c =
    let R = reported c.args.self.now.report.now in
    let m : Message = record { node = c.args.s; nav = c.to.result } in
    let e = c.offer-offer.ensures in
    let h = decide_hops _ _ _ _ _ c.requires.accepts in
    sets_out R c.args.self.now.picks.now m c.args.d.0 _ c.requires.accepts c.follow-first.result _ _ c.to.ensures (e.mask, e.hops)
    (omega (arith, c.if-offer-ne0.true)) (omega (arith, h, e.hops, c.args.self.now.chosen)) (λ mask q. rw (sym (same_offer q)) c.follow-first.ensures)

pub bounds-path-1 : goal.bounds-path-1
bounds-path-1 c =
    omega (arith, length-set c.args.path.now 0 c.args.s.0, c.requires.room)

-- the path with its first two boards is as long as before
long : (path : List ℕ) (s b : ℕ) → length (set (set path 0 s) 1 b) ≡ length path
long path s b = length-set (set path 0 s) 1 b ∙ length-set path 0 s

pub onward-requires : goal.onward-requires
onward-requires c =
    let low = (few (goal.at.onward-requires c).After-offer-offer).0 in record {
      some = omega (arith, c.if-offer-ne0.true);
      chosen = omega (arith, low, c.args.self.now.chosen);
      room = omega (arith, low, c.requires.room, long c.args.path.now c.args.s.0 c.follow-first.result.node.0);
      walks = (first (goal.at.onward-requires c).After-follow-first).0;
    }

pub returns-then-offer-ne0 : goal.returns-then-offer-ne0
unfolding path_by
returns-then-offer-ne0 c =
    let hops = (few (goal.at.returns-then-offer-ne0 c).After-offer-offer).1 in
    (hops, c.onward.ensures ∙ path_whole c.args.path.now c.args.s.0 _ _ (after (goal.at.returns-then-offer-ne0 c).Start) _ (omega (arith, c.requires.room)) hops (first (goal.at.returns-then-offer-ne0 c).After-follow-first).1)

pub returns-else-offer-ne0 : goal.returns-else-offer-ne0
unfolding path_by
returns-else-offer-ne0 c =
    let hops = (few (goal.at.returns-else-offer-ne0 c).After-offer-offer).1 in
    (hops, path_home c.args.path.now c.args.s.0 (after (goal.at.returns-else-offer-ne0 c).Start) (omega (arith, c.requires.room)) (sym hops ∙ c.if-offer-ne0.false))
