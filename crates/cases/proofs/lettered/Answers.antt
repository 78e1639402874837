-- The lettered cases hold, by computation.
use mathlib.Core.Path.{refl}
use Rattle.cases.specs.Lettered.{Holds}
use Rattle.cases.proofs.lettered.Goals as goal

pub returns : goal.returns
unfolding Holds
returns c = refl
