-- `routing::decide` meets its contract: where every test passes the rule at the source answers, and else the first that doesn't refuses.
use mathlib.Core.Path.{ap, sym, ◌∙◌}
use Prim.Native.Nat.{ℕ}
use lib.Bits.{xor_lt}
use Rattle.std.proofs.Common.{rules}
use Rattle.cube.specs.Bits.{weight}
use Rattle.cube.proofs.Reply.{unless_none}
use Rattle.cube.proofs.Refusals.{unless_refusal}
use Rattle.report.specs.Report.{reported, cut, cube}
use Rattle.report.proofs.Laws.{dimension_range}
use Rattle.held.specs.Held.{own}
use Rattle.rules.specs.Rules.{at_source}
use Rattle.rules.specs.Decide.{decide}
use Rattle.rules.proofs.Refusals.{decide_clear, clear_lengths}
use Rattle.routing.proofs.decide.Goals as goal

pub returns-in_err-tested : goal.returns-in_err-tested
unfolding decide
returns-in_err-tested c = search (rules, unless_refusal)

pub invariant_of-message : goal.invariant_of-message
invariant_of-message c =
    let a = c.args in
    let R = reported a.report.now in
    let k = decide_clear R a.vectors.now a.s.0 a.d.0 (sym c.in_ok-tested.ensures) in
    let l = clear_lengths R a.vectors.now a.s.0 a.d.0 a.d.0 k in record {
      small = (dimension_range _ k.dim).1;
      links_sized = l.0;
      vectors_sized = l.1;
      node_inside = k.node;
      nav_inside = rw c.to.ensures (xor_lt R.dim a.s.0 a.d.0 k.node k.other);
    }

pub returns : goal.returns
unfolding decide cube
returns c =
    let a = c.args in
    let R = a.report.now in
    c.at_source.ensures
    ∙ ap (λ (x : ℕ). at_source R.n (cut R.links.now) (own a.vectors.now) a.s.0 x (weight x)) c.to.ensures
    ∙ sym (unless_none _ _ (sym c.in_ok-tested.ensures))
