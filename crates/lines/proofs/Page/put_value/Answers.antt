-- `Page::put_value` meets its contract: its parts are put one after the other.
use Rattle.lines.specs.Text.{valued}
use Rattle.lines.proofs.Placing.{puts_then}
use Rattle.lines.proofs.Page.put_value.Goals as goal

pub returns : goal.returns
unfolding valued
returns c =
    puts_then c.put_byte.ensures (puts_then c.put_number.ensures c.put_byte-2.ensures)
