-- It ends at the destination, after the hops promised.
use Rattle.journey.specs.Promise.{JourneyArrives}
use Rattle.journey.proofs.Promise.{journey_arrives}
use Rattle.journey.proofs.journey_arrives.Goals as goal

pub returns : goal.returns
unfolding JourneyArrives
returns c = journey_arrives
