-- `text::vectors_of` meets its contract: Fill accepts the report.
use mathlib.Core.Path.{refl, sym, ◌∙◌}
use Prim.Native.Nat.{◌^◌, ◌≤◌}
use native.Mathlib.Omega.{arith}
use lib.ListN.{length}
use lib.Pow.{pow_mono}
use lib.Seq.{length-take-le}
use Rattle.report.specs.Report.{reported}
use Rattle.cube.proofs.Refusals.{accepts}
use Rattle.text.proofs.Lines.{fill_accepts, filled_first}
use Rattle.text.proofs.vectors_of.Goals as goal

pub slice_bounds-vectors-end : goal.slice_bounds-vectors-end
slice_bounds-vectors-end c =
    omega (arith, c.requires.status_size, pow_mono {i = c.args.report.now.n} {j = 10} c.requires.high, c.room-vectors.ensures)

-- so it refuses nothing
pub unwrap-requires : goal.unwrap-requires
unwrap-requires c =
    let room = c.room-vectors in
    let h : 2 ^ c.args.report.now.n ≤ length room.result = omega (arith, pow_mono {i = c.args.report.now.n} {j = 10} c.requires.high, room.ensures) in
    rw (accepts (λ _. tt) _ _ (c.fill.ensures.answer ∙ fill_accepts (reported c.args.report.now) c.requires room.result _ c.requires.status_size h)) refl

pub returns : goal.returns
returns c =
    let n = c.args.report.now.n in
    let room = c.room-vectors in
    let h : 2 ^ n ≤ length room.result = omega (arith, pow_mono {i = n} {j = 10} c.requires.high, room.ensures) in
    let first = filled_first (reported c.args.report.now) c.requires room.result _ _ c.requires.status_size h c.fill.ensures.words in
    record { long = room.ensures ∙ first.0; words = first.1 }

pub slice_bounds-fill-end : goal.slice_bounds-fill-end
slice_bounds-fill-end c =
    let status = c.args.report.now.status.now in
    let h : length status ≤ length c.room-vectors.result = omega (arith, c.requires.status_size, pow_mono {i = c.args.report.now.n} {j = 10} c.requires.high, c.room-vectors.ensures) in
    sym (length-take-le (length status) c.room-vectors.result h)
