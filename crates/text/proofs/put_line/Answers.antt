-- `text::put_line` meets its contract: its fields are put one after the other.
use mathlib.Core.Path.{◌∙◌}
use Rattle.lines.proofs.Placing.{puts_then}
use Rattle.text.specs.Listing.{line}
use Rattle.text.proofs.put_line.Goals as goal

pub returns : goal.returns
unfolding line
returns c =
    let named = c.as_bytes.ensures.value ∙ c.name_of.ensures in
    puts_then c.put_number.ensures (puts_then (rw named at c.put.ensures) (puts_then c.put_bits.ensures c.put_byte.ensures))
