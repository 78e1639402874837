-- No walk is longer than n + 1.
use Rattle.arrival.specs.Promise.{NeverLong}
use Rattle.arrival.proofs.Walks.{never_long}
use Rattle.arrival.proofs.never_long.Goals as goal

pub returns : goal.returns
unfolding NeverLong
returns t R s d c legs a nav w = never_long R s d c w
