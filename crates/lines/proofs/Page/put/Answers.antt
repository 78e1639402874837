-- `Page::put` meets its contract.
use native.Mathlib.Omega.{arith}
use Rattle.lines.proofs.Placing.{puts_next}
use Rattle.lines.proofs.Page.put.Goals as goal

pub loop-byte-preserved : goal.loop-byte-preserved
loop-byte-preserved c =
    puts_next c.args.word.now c.loop-byte.byte-index (omega arith) c.loop-byte.invariant c.put_byte.ensures
