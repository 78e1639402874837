-- `routing::hop` meets its contract: where every test passes the rule at a later node answers, and else the first that doesn't refuses.
use mathlib.Core.Path.{◌≡◌, ap, sym, ◌∙◌}
use lib.Bits.{bit_xor}
use Rattle.std.proofs.lemmas.Result.{err_from_is_err_and}
use Rattle.cube.specs.Refusals.{refused_by}
use Rattle.cube.proofs.Reply.{unless_none}
use Rattle.cube.proofs.Refusals.{unless_refusal}
use Rattle.report.specs.Report.{reported, cube}
use Rattle.report.proofs.Laws.{dimension_range}
use Rattle.rules.specs.Refusals.{decide_refusal, hop_refusal}
use Rattle.rules.specs.Hop.{hop}
use Rattle.rules.proofs.Refusals.{hop_clear, clear_lengths, hop_as_decide}
use Rattle.routing.proofs.hop.Goals as goal
use Rattle.routing.proofs.hop.Goals.{After-tested}

-- Hop's tests are Decide's
tests : (c : After-tested) → hop_refusal (reported c.args.report.now) c.args.vectors.now c.args.a.0 c.args.nav.0 ≡ refused_by c.tested.result
tests c =
    let a = c.args in
    hop_as_decide (reported a.report.now) a.vectors.now a.a.0 a.nav.0
    ∙ ap (decide_refusal (reported a.report.now) a.vectors.now a.a.0) (sym c.at.ensures)
    ∙ sym c.tested.ensures

pub returns-in_err-tested : goal.returns-in_err-tested
unfolding hop
returns-in_err-tested c =
    let p = err_from_is_err_and c.from_residual.result c.from_residual.ensures.1 in
    rw (p.1, p.2) (sym (unless_refusal _ _ _ (sym (tests (goal.at.returns-in_err-tested c).After-tested ∙ ap refused_by c.in_err-tested.was))))

pub invariant_of-message : goal.invariant_of-message
invariant_of-message c =
    let a = c.args in
    let R = reported a.report.now in
    let k = hop_clear R a.vectors.now a.a.0 a.nav.0 (tests (goal.at.invariant_of-message c).After-tested ∙ ap refused_by c.in_ok-tested.was) in
    let l = clear_lengths R a.vectors.now a.a.0 a.nav.0 (bit_xor a.a.0 a.nav.0) k in record {
      small = (dimension_range _ k.dim).1;
      links_sized = l.0;
      vectors_sized = l.1;
      node_inside = k.node;
      nav_inside = k.other;
    }

pub returns : goal.returns
unfolding hop cube
returns c = c.at_node.ensures ∙ sym (unless_none _ _ (tests (goal.at.returns c).After-tested ∙ ap refused_by c.in_ok-tested.was))
