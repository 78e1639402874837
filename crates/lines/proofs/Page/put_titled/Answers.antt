-- `Page::put_titled` meets its contract: its parts are put one after the other.
use Rattle.lines.specs.Text.{titled}
use Rattle.lines.proofs.Placing.{puts_then}
use Rattle.lines.proofs.Page.put_titled.Goals as goal

pub returns : goal.returns
unfolding titled
returns c = puts_then c.put.ensures c.put_value.ensures
