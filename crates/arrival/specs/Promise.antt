-- Demand 3: what holds of every partial walk, for every report, pair and choice.
use Rattle.std.specs.Prelude.{ℕ, ◌+◌, ◌≤◌, ◌≡◌, true, ◌↔◌, List, ◌∷◌, ◌++◌, length}
use Rattle.std.specs.Int.Bits.{bit_xor}
use Rattle.cube.specs.Bits.{bit, weight}
use Rattle.cube.specs.Reply.{refused, accepted}
use Rattle.report.specs.Report.{Report, cube}
use Rattle.safety.specs.Safety.{vectors_of}
use Rattle.rules.specs.Rules.{Choice, home, assured, lent, detour, hops_of, arrived, onward}
use Rattle.rules.specs.Decide.{decide}
use Rattle.rules.specs.Hop.{hop}
use Rattle.arrival.specs.Walk.{Leg, answer, Walk, boards, distinct, all_work, all_sound}

-- the hops that a kind takes beyond the distance
unfoldable pub beyond : Choice → ℕ
beyond home = 0
beyond (assured mask h) = 0
beyond (lent mask h) = 0
beyond (detour mask h) = 2

pub record Kept (R : Report) (s d : ℕ) (c : Choice) (legs : List Leg) (a nav : ℕ) : Type 0 where
  -- the relative address is right
  pub address : nav ≡ bit_xor a d
  -- short of the destination the board's answer offers some dimension
  pub offered : (a ≡ d → ⊥) → (mask i : ℕ) × (answer R c legs a nav ≡ accepted (onward mask)) × (bit mask i ≡ true)
  -- at the destination it is arrived
  pub there : a ≡ d → answer R c legs a nav ≡ accepted arrived
  -- the hops promised are as many as the addresses differ in bits, plus two on a detour
  pub promised : hops_of c ≡ weight (bit_xor s d) + beyond c
  -- there are never more
  pub bounded : length legs ≤ hops_of c
  -- and the message has arrived exactly when it has made them
  pub exact : (a ≡ d) ↔ (length legs ≡ hops_of c)
  -- no board twice
  pub once : distinct (a ∷ boards legs) ≡ true
  -- every board working
  pub working : all_work (cube R) (a ∷ boards legs) ≡ true
  -- no faulty link crossed
  pub sound : all_sound (cube R) legs ≡ true

-- demand 3
unfoldable pub Promise : Type 0
Promise = (R : Report) (s d : ℕ) (c : Choice) (legs : List Leg) (a nav : ℕ) → Walk R s d c legs a nav → Kept R s d c legs a nav

-- every partial walk can be completed
unfoldable pub Completes : Type 0
Completes =
    (R : Report) (s d : ℕ) (c : Choice) (legs : List Leg) (a nav : ℕ)
    → Walk R s d c legs a nav → (more : List Leg) × Walk R s d c (more ++ legs) d 0

-- over Fill's vectors Decide never answers 8
unfoldable pub NoEight : Type 0
NoEight = (R : Report) (s d : ℕ) → decide R (vectors_of R) s d ≡ refused 8 → ⊥

-- on a walk Hop refuses nothing, by 9 or by any other number
unfoldable pub NoRefusal : Type 0
NoRefusal =
    (R : Report) (s d : ℕ) (c : Choice) (l : Leg) (legs : List Leg) (a nav m : ℕ)
    → Walk R s d c (l ∷ legs) a nav → hop R (vectors_of R) a nav ≡ refused m → ⊥

-- no walk is longer than n + 1
unfoldable pub NeverLong : Type 0
NeverLong = (R : Report) (s d : ℕ) (c : Choice) (legs : List Leg) (a nav : ℕ) → Walk R s d c legs a nav → length legs ≤ R.dim + 1
