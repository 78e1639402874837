-- `text::put_bits` meets its contract.
use mathlib.Core.Path.{ap, ◌∙◌}
use Rattle.cube.specs.Count.{one}
use Rattle.held.proofs.Held.{byte_one}
use Rattle.lines.proofs.Placing.{puts_none}
use Rattle.text.specs.Listing.{row}
use Rattle.text.specs.Fit.{held_bits}
use Rattle.text.proofs.Lines.{row_put}
use Rattle.text.proofs.put_bits.Goals as goal

pub loop-k-init : goal.loop-k-init
unfolding row
loop-k-init c = puts_none _

pub loop-k-preserved : goal.loop-k-preserved
unfolding held_bits
loop-k-preserved c =
    let bit = c.from.ensures ∙ byte_one c.own.result ∙ ap one c.own.ensures in
    row_put (held_bits c.args.vectors.now c.args.a.0) c.loop-k.k bit c.loop-k.invariant c.put_byte.ensures
