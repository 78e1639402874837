-- On a walk Hop refuses nothing.
use Rattle.arrival.specs.Promise.{NoRefusal}
use Rattle.arrival.proofs.Walks.{no_refusal}
use Rattle.arrival.proofs.no_refusal.Goals as goal

pub returns : goal.returns
unfolding NoRefusal
returns t R s d c l legs a nav k w = no_refusal R s d c w
