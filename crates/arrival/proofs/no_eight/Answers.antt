-- Decide never answers 8.
use Rattle.arrival.specs.Promise.{NoEight}
use Rattle.arrival.proofs.Walks.{no_eight}
use Rattle.arrival.proofs.no_eight.Goals as goal

pub returns : goal.returns
unfolding NoEight
returns c = no_eight
