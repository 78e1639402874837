-- `Way::onward` meets its contract.
use mathlib.Core.Path.{◌≡◌, refl, ap, sym, ◌∙◌}
use native.Mathlib.Omega.{arith}
use Rattle.std.specs.Prelude.{Some, Ok}
use Rattle.report.specs.Report.{Report, reported}
use Rattle.routing.specs.Hop.{said}
use Rattle.journey.specs.Message.{Offers}
use Rattle.journey.proofs.Messages.{under_next, under_end, hop_offers, offered, same_offer}
use Rattle.journey.proofs.Way.onward.Goals as goal
use Rattle.journey.proofs.Way.onward.Goals.{Start, After-hop}

-- the report that the call is given
abbrev given : Start → Report
given c = reported c.args.self.now.report.now

pub loop-j-init : goal.loop-j-init
loop-j-init c = let p = c.requires in (p.some, refl, refl, p.walks, refl)

-- what Hop answered is an offer
offer : (c : After-hop) → Offers (said c.hop.result)
offer c =
    let l = c.loop-j in
    let (mask, q) = hop_offers (reported c.args.self.now.report.now) c.args.promised l.j l.m l.invariant.3 c.loop-j-test.true in
    (mask, (rw c.args.self.now.filled at c.hop.ensures) ∙ q)

pub unwrap-answer-requires : goal.unwrap-answer-requires
unwrap-answer-requires c = rw (offered c.hop.result (offer (goal.at.unwrap-answer-requires c).After-hop)) refl

pub unwrap-mask-requires : goal.unwrap-mask-requires
unwrap-mask-requires c =
    let o = offer (goal.at.unwrap-mask-requires c).After-hop in
    let some : c.unwrap-answer.result ≡ Some o.0 = (let e = sym c.unwrap-answer.ensures ∙ offered c.hop.result o in cc) in
    rw some refl

pub loop-j-preserved : goal.loop-j-preserved
loop-j-preserved c =
    let l = c.loop-j in
    let a = c.args in
    let told : said c.hop.result ≡ said (Ok (Some c.unwrap-mask.result)) = ap said (c.unwrap-answer.ensures ∙ ap Ok c.unwrap-mask.ensures) in
    under_next (given (goal.at.loop-j-preserved c).Start) a.self.now.picks.now a.promised a.path.now a.first l.path l.m l.j c.follow-m.result l.invariant
    c.loop-j-test.true c.requires.chosen c.requires.room
    (λ mask q. rw (same_offer (sym q ∙ sym (rw c.args.self.now.filled at c.hop.ensures) ∙ told)) c.follow-m.ensures)

pub returns : goal.returns
returns c =
    let l = c.loop-j in
    let a = c.args in
    under_end (given (goal.at.returns c).Start) a.self.now.picks.now a.promised a.path.now a.first l.path l.m l.j l.invariant (omega (arith, c.loop-j-test.false))
