-- `held::has` meets its contract.
use mathlib.Core.Path.{sym, ◌∙◌}
use native.Mathlib.Omega.{arith}
use borrow.Author.Tests.{lt-leb}
use Rattle.held.proofs.Held.{held_high, held_is}
use Rattle.held.proofs.has.Goals as goal

pub returns-then-k-le16 : goal.returns-then-k-le16
returns-then-k-le16 c = held_is c.args.word c.args.k _ (omega arith) c.bit_of.ensures.digit

pub returns-else-k-le16 : goal.returns-else-k-le16
returns-else-k-le16 c = lt-leb c.args.k 16 (omega arith) ∙ sym (held_high c.args.word c.args.k (omega arith) c.if-k-le16.false)
