-- `Message::mask` meets its contract: the registered bits that are among the dimensions asked for.
use mathlib.Core.Path.{ap, ◌∙◌}
use Prim.Native.Nat.{ℕ}
use lib.Bits.{bit_and}
use Rattle.cube.proofs.Count.{pack_and}
use Rattle.report.specs.Report.{cut}
use Rattle.safety.specs.Safety.{registered}
use Rattle.held.specs.Held.{own}
use Rattle.held.proofs.Held.{heard_at}
use Rattle.rules.specs.Rules.{borne, offer}
use Rattle.routing.proofs.Message.mask.Goals as goal

pub returns : goal.returns
unfolding offer borne
returns c =
    let m = c.args.self.now in
    let n = m.report.now.n in
    let links = m.report.now.links.now in
    ap (λ (x : ℕ). bit_and x c.args.dims) (c.heard.ensures ∙ heard_at n links m.vectors.now m.node.0 c.args.k m.small m.links_sized m.vectors_sized m.node_inside c.requires)
    ∙ pack_and (registered (cut links) (own m.vectors.now c.args.k) m.node.0) c.args.dims n
