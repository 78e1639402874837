-- `text::listing` meets its contract: the text of what is read is put.
use mathlib.Core.Path.{◌≡◌, ap}
use Prim.Native.Nat.{◌≤◌}
use native.Mathlib.Omega.{arith}
use lib.ListN.{length}
use Rattle.lines.specs.Put.{Puts}
use Rattle.lines.proofs.Placing.{puts_whole}
use Rattle.cube.specs.Refusals.{number_in}
use Rattle.cube.specs.Reply.{refused}
use Rattle.cube.proofs.Refusals.{number_range}
use Rattle.report.specs.Report.{reported}
use Rattle.text.specs.Listing.{listing, places}
use Rattle.text.proofs.Answers.{refused_text, length_listed, length_report}
use Rattle.text.proofs.listing.Goals as goal
use Rattle.text.proofs.listing.Goals.{Joined-opened, in-Ok, in-Err}

-- either answer's text is put, and has room
put : (c : Joined-opened) → Puts (listing c.args.bytes.now) c.new-page.result c.match-opened.page × (length (listing c.args.bytes.now) ≤ 24584)
put c =
    elim c.match-opened.branch [
      | in-Ok w ↦
          (let read = w.in-Ok.ensures in
          rw (w.page-is, read.1) (w.put_cube.ensures, length_report (reported w.in-Ok.report) read.0))
      | in-Err w ↦
          (let m = number_in w.in-Err.refusal in
          let few = (number_range w.in-Err.refusal).1 in
          let said = rw w.from.ensures at w.put_titled.ensures in
          let text = (refused_text m (omega (arith, few))).0 in
          rw (w.page-is, w.in-Err.ensures) (rw text at said, length_listed (refused m) places places (omega (arith, few))))
    ]

pub returns : goal.returns
returns c =
    let lent : c.new-page.result.out.now ≡ c.args.out.now = c.new-page.ensures.bytes in
    let whole = puts_whole (put c).0 c.new-page.ensures.start (omega (arith, (put c).1, ap length lent)) in
    record { count = whole.0; length = whole.1.0; text = rw lent at whole.1.1 }
