-- `safety::one_recurrence` holds.
use Rattle.safety.proofs.Safety.{recurrence}
use Rattle.safety.proofs.one_recurrence.Goals as goal

pub returns : goal.returns
returns c = recurrence
