-- What holds of every partial walk.
use Rattle.arrival.specs.Promise.{Promise}
use Rattle.arrival.proofs.Walks.{kept}
use Rattle.arrival.proofs.promise.Goals as goal

pub returns : goal.returns
unfolding Promise
returns t R s d c legs a nav w = kept R s d c w
