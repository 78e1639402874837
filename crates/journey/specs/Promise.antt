-- Journey's path is one of demand 3's walks, it ends at the destination after the hops promised, and Journey refuses by 1 to 6 before it fills and by 7 after.
use Rattle.std.specs.Prelude.{ℕ, ◌≤◌, ◌≡◌, ◌⊎◌, List, ◌∷◌, reverse, length, get_or}
use Rattle.cube.specs.Reply.{refused, accepted}
use Rattle.report.specs.Report.{Report}
use Rattle.rules.specs.Rules.{hops_of}
use Rattle.arrival.specs.Walk.{Leg, Walk, boards}
use Rattle.journey.specs.Journey.{Route, journey_refusal, journey, outcome}

-- Every journey is one of demand 3's walks, arrived: the path is the boards that its legs left, and the destination. Legs stand latest first.
unfoldable pub JourneyWalks : Type 0
JourneyWalks =
    (R : Report) (vecs picks path : List ℕ) (s d : ℕ) (r : Route)
    → journey R vecs picks path s d ≡ accepted r
    → (legs : List Leg) × Walk R s d r.choice legs d 0 × (s ∷ r.after ≡ reverse (d ∷ boards legs))

-- so the last board of the path is the destination, and the hops made are those promised
unfoldable pub JourneyArrives : Type 0
JourneyArrives =
    (R : Report) (vecs picks path : List ℕ) (s d : ℕ) (r : Route)
    → journey R vecs picks path s d ≡ accepted r
    → (get_or (s ∷ r.after) (length r.after) 0 ≡ d) × (length r.after ≡ hops_of r.choice)

-- whatever it is given, it refuses by 1 to 6 before it fills, and by 7 alone after that
unfoldable pub JourneyRefuses : Type 0
JourneyRefuses =
    (R : Report) (vecs picks path : List ℕ) (s d m : ℕ)
    → outcome (journey R vecs picks path s d) ≡ refused m
    → ((journey_refusal R vecs picks path s d ≡ m) × (1 ≤ m) × (m ≤ 6)) ⊎ ((journey_refusal R vecs picks path s d ≡ 0) × (m ≡ 7))
