-- For Journey's private functions: a message under way as the code carries it.
use Rattle.std.specs.Prelude.{ℕ, ◌≡◌, List, ◌∷◌, length, drop}
use Rattle.cube.specs.Bits.{flip}
use Rattle.cube.specs.Reply.{Reply, accepted}
use Rattle.report.specs.Report.{Report}
use Rattle.safety.specs.Safety.{vectors_of}
use Rattle.rules.specs.Rules.{Choice, hops_of, Next, onward}
use Rattle.rules.specs.Hop.{hop}
use Rattle.arrival.specs.Walk.{Leg, Walk}
use Rattle.journey.specs.Journey.{hops}
use Rattle.journey.specs.declared.Message.{Message}

-- an answer that offers something
abbrev pub Offers : Reply Next → Type 0
Offers x = (mask : ℕ) × (x ≡ accepted (onward mask))

-- one hop further, along dimension i
abbrev pub Crossed : Message → ℕ → Message → Type 0
Crossed m i r = (r.node.0 ≡ flip m.node.0 i) × (r.nav.0 ≡ flip m.nav.0 i)

-- after j hops, the first of them by Decide's offer, it is on one of demand 3's walks, with so many hops promised
abbrev pub Walks : Report → ℕ → ℕ → Message → Type 0
Walks R promised j m =
    (s d : ℕ) × (c : Choice) × (l : Leg) × (legs : List Leg)
    × Walk R s d c (l ∷ legs) m.node.0 m.nav.0 × (length (l ∷ legs) ≡ j) × (hops_of c ≡ promised)

-- the boards after its own, by what Hop answers there and the picks after the first j
abbrev pub ahead : Report → List ℕ → ℕ → Message → List ℕ
ahead R picks j m = hops R (drop j picks) (hop R (vectors_of R) m.node.0 m.nav.0) m.node.0 m.nav.0
