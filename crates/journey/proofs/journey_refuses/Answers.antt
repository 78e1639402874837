-- Before it fills Journey refuses by 1 to 6, and after that by 7 alone.
use Rattle.journey.specs.Promise.{JourneyRefuses}
use Rattle.journey.proofs.Promise.{journey_refuses}
use Rattle.journey.proofs.journey_refuses.Goals as goal

pub returns : goal.returns
unfolding JourneyRefuses
returns c = journey_refuses
