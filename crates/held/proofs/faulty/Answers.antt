-- `held::faulty` meets its contract: the words of both ends are read, and taken together.
use mathlib.Core.Path.{ap, ◌∙◌}
use Prim.Native.Nat.{ℕ, suc}
use lib.ListN.{get_or}
use Rattle.cube.specs.Bits.{bit}
use Rattle.cube.specs.Count.{pack}
use Rattle.report.specs.Report.{joint}
use Rattle.report.proofs.Laws.{cut_joint}
use Rattle.held.proofs.faulty.Goals as goal

pub returns : goal.returns
unfolding bit
returns c =
    let a = c.args in
    ap (λ (w : ℕ). bit w (suc a.i)) (c.joint-word.ensures ∙ ap (λ (b : ℕ). pack (joint (get_or a.links.now a.a 0) (get_or a.links.now b 0)) 16) c.across.ensures)
    ∙ cut_joint a.links.now a.a a.i c.requires.0
