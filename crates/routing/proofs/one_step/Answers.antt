-- `said` tells the steps apart.
use mathlib.Core.Path.{◌≡◌, refl}
use Prim.Native.Nat.{ℕ}
use Rattle.std.specs.Prelude.{Option, Some, None}
use Rattle.cube.proofs.Refusals.{one_answer_by}
use Rattle.rules.specs.Rules.{Next, arrived, onward}
use Rattle.routing.specs.Hop.{next}
use Rattle.routing.proofs.one_step.Goals as goal

abbrev back : Next → Option ℕ
back arrived = None
back (onward mask) = Some mask

back_next : (o : Option ℕ) → back (next o) ≡ o
back_next None = refl
back_next (Some mask) = refl

pub returns : goal.returns
returns c = one_answer_by next back back_next
