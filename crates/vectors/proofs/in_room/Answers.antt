-- `vectors::in_room` meets its contract: the parts that it lends lie within its arrays, and over the masks of the faulty links the rounds give what the report says.
use mathlib.Core.Path.{ap, ◌∙◌}
use mathlib.Core.List.{List}
use Prim.Native.Nat.{ℕ}
use lib.ListN.{length, length-replicate}
use Rattle.report.specs.Report.{reported}
use Rattle.vectors.specs.Rounds.{after, known}
use Rattle.vectors.proofs.Rounds.{room, length_faults, lent_again, after_known}
use Rattle.vectors.proofs.in_room.Goals as goal

pub gather-requires : goal.gather-requires
gather-requires g c =
    let fit = c.requires.0 in
    let e = room 0 c.args.report.now.n _ g.row.ROOM fit.2 c.requires.1 in
    ((fit.0, fit.1, ap length e ∙ length-replicate _ 0), e)

pub all_rounds-requires : goal.all_rounds-requires
all_rounds-requires g c =
    let r = c.args.report.now in
    let fit = c.requires.0 in
    ((fit.0, fit.1, ap length (lent_again r.n _ r.links.now _ _ fit.2 c.gather.ensures) ∙ length_faults r.n r.links.now), room 1 r.n _ g.row.ROOM fit.2 c.requires.1, fit.2)

pub returns : goal.returns
returns g c =
    let R = reported c.args.report.now in
    c.all_rounds.ensures ∙ ap (λ (masks : List ℕ). after (known R masks) R.dim) (lent_again R.dim _ R.links _ _ c.requires.0.2 c.gather.ensures) ∙ after_known R
