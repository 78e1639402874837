-- `Message::follow` meets its contract: where the pick takes a dimension that is crossed, and else nothing is.
use mathlib.Core.Path.{ap, sym, ◌∙◌}
use native.Mathlib.Nat.{le_trans, le_of_eq}
use lib.Bits.{xor_zero_r}
use Rattle.cube.specs.Bits.{flip}
use Rattle.cube.proofs.Bits.{crossed_flip}
use Rattle.pick.proofs.Pick.{taken_le, named_some, named_none}
use Rattle.journey.proofs.Message.follow.Goals as goal

pub returns-in_default : goal.returns-in_default
unfolding flip
returns-in_default c =
    let m = c.args.self in
    let none = named_none _ c.in_default.ensures in
    (rw none (sym (xor_zero_r m.node.0)), rw none (sym (xor_zero_r m.nav.0)))

pub returns : goal.returns
returns c =
    let m = c.args.self in
    let along = named_some _ _ c.in-Some.ensures in
    let low = le_trans (le_of_eq along) (le_trans (taken_le c.args.n c.args.mask c.args.pick) c.requires) in (
      c.neighbour.ensures ∙ crossed_flip m.node.0 _ low ∙ ap (flip m.node.0) along,
      c.crossed.ensures ∙ crossed_flip m.nav.0 _ low ∙ ap (flip m.nav.0) along,
    )
