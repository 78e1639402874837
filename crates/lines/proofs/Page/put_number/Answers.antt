-- `Page::put_number` meets its contract: the digits that `io::decimal` finds are put.
use native.Mathlib.Omega.{arith}
use mathlib.Core.Path.{◌∙◌}
use Rattle.lines.proofs.Text.{decimal_fewest}
use Rattle.lines.proofs.Page.put_number.Goals as goal

pub returns : goal.returns
returns c =
    let spelled = c.decimal-count.ensures.digits ∙ decimal_fewest c.args.number c.decimal-count.result (omega arith) c.decimal-count.ensures.len in
    rw (← spelled) c.put.ensures
