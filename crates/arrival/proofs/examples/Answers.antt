-- The walks hold by computation.
use mathlib.Core.Path.{refl}
use Rattle.safety.specs.Safety.{vectors}
use Rattle.rules.specs.Decide.{decide}
use Rattle.rules.specs.Hop.{hop}
use Rattle.arrival.specs.Walk.{source, go, answer}
use Rattle.arrival.specs.Examples.{Examples}
use Rattle.arrival.proofs.examples.Goals as goal

pub returns : goal.returns
unfolding Examples vectors decide hop answer
returns c = (
  source refl,
  go {i = 3} (go {i = 4} (go {i = 1} (source refl) refl refl) refl refl) refl refl,
  go {i = 1} (go {i = 2} (go {i = 4} (source refl) refl refl) refl refl) refl refl,
  go {i = 4} (go {i = 1} (go {i = 3} (go {i = 4} (source refl) refl refl) refl refl) refl refl) refl refl,
)
