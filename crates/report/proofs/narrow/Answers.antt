-- `report::narrow` meets its contract.
use mathlib.Core.Path.{◌∙◌}
use Prim.Native.Nat.{◌^◌, min}
use lib.Dec.{ltb}
use Rattle.std.proofs.Common.{rules, tests}
use Rattle.std.proofs.lemmas.Iterator.{YieldsList-from_slice}
use Rattle.std.proofs.lemmas.Iterator.Search.{all_from_yields_List}
use Rattle.report.proofs.Laws.{narrow_all}
use Rattle.report.proofs.narrow.Goals as goal

pub returns : goal.returns
returns c =
    all_from_yields_List (λ w. ltb w (2 ^ min c.args.n 16)) _ _ c.all.result c.all.ensures.ran (YieldsList-from_slice c.args.links.now cc) (λ x b q k. search (rules, tests))
    ∙ narrow_all c.args.n c.args.links.now (λ k. (c.type_inv.links k).fits)
