-- The records skipped, each node's byte and the tests stay over every step of a reordering.
use Rattle.log_rules.specs.Claims.{AnyOrder}
use Rattle.log_rules.proofs.Order.{same_answer, same_status}
use Rattle.log_rules.proofs.any_order.Goals as goal

pub returns : goal.returns
unfolding AnyOrder
returns c = λ n sweep log other status e p. (same_answer n sweep log other status e p, same_status n sweep log other status e p)
