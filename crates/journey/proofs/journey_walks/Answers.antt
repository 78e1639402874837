-- Journey's path is one of demand 3's walks.
use Rattle.journey.specs.Promise.{JourneyWalks}
use Rattle.journey.proofs.Promise.{journey_walks}
use Rattle.journey.proofs.journey_walks.Goals as goal

pub returns : goal.returns
unfolding JourneyWalks
returns c = journey_walks
