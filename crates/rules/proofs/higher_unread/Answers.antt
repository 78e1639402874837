-- Higher bits aren't read.
use Rattle.rules.proofs.Unread.{higher_unread}
use Rattle.rules.proofs.higher_unread.Goals as goal

pub returns : goal.returns
returns c = higher_unread
