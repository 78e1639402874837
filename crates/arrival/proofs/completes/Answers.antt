-- Every partial walk can be completed.
use Rattle.arrival.specs.Promise.{Completes}
use Rattle.arrival.proofs.Walks.{completes as whole}
use Rattle.arrival.proofs.completes.Goals as goal

pub returns : goal.returns
unfolding Completes
returns t R s d c legs a nav w = whole R s d c w
