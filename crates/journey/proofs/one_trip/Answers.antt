-- `said` tells the trips apart.
use mathlib.Core.Path.{◌≡◌, ap}
use Prim.Native.Nat.{ℕ}
use Rattle.cube.proofs.Refusals.{one_answer_by}
use Rattle.rules.specs.Rules.{Choice}
use Rattle.routing.specs.declared.Kind.{Kind}
use Rattle.journey.specs.Journey.{told_of}
use Rattle.journey.specs.declared.Trip.{Trip}
use Rattle.routing.proofs.Choices.{kind_of, kind_back}
use Rattle.journey.proofs.one_trip.Goals as goal

abbrev back : Choice × ℕ → Trip
back t = record { kind = kind_of t.0; hops = t.1 }

back_told : (t : Trip) → back (told_of t) ≡ t
back_told t = ap (λ (k : Kind). record { kind = k; hops = t.hops }) (kind_back t.kind)

pub returns : goal.returns
returns c = one_answer_by told_of back back_told
