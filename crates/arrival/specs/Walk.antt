-- Demand 3's walks: those that any allowed choices make, over the vectors that Fill writes.
use Rattle.std.specs.Prelude.{ℕ, ◌≡◌, Bool, true, not, ◌&&◌, List, [], ◌∷◌, eqb}
use Rattle.std.specs.Int.Bits.{bit_xor}
use Rattle.cube.specs.Bits.{bit, flip}
use Rattle.cube.specs.Reply.{Reply, accepted}
use Rattle.report.specs.Health.{Cube}
use Rattle.report.specs.Report.{Report}
use Rattle.safety.specs.Safety.{vectors_of}
use Rattle.rules.specs.Rules.{Choice, home, assured, lent, detour, Next, arrived, onward}
use Rattle.rules.specs.Decide.{decide}
use Rattle.rules.specs.Hop.{hop}

-- one hop: from a board along a dimension
pub record Leg : Type 0 where
  pub board : ℕ
  pub along : ℕ

-- what Decide's acceptance tells the source to do with the message
unfoldable pub told : Choice → Next
told home = arrived
told (assured mask h) = onward mask
told (lent mask h) = onward mask
told (detour mask h) = onward mask

-- what a board answers a message that has made these legs, latest first: at the source what Decide accepted, later what Hop says
unfoldable pub answer : Report → Choice → List Leg → ℕ → ℕ → Reply Next
unfolding told
answer R c [] a nav = accepted (told c)
answer R c (l ∷ legs) a nav = hop R (vectors_of R) a nav

-- A partial walk from s to d, where Decide accepted s by c: the legs made, latest first, the board where the message is, and its relative
-- address. It begins at the source, and grows by one hop along any dimension that the board offers.
pub data Walk (R : Report) (s d : ℕ) (c : Choice) : List Leg → ℕ → ℕ → Type 0 where
  source : decide R (vectors_of R) s d ≡ accepted c → Walk R s d c [] s (bit_xor s d)
  go : {legs : List Leg} {a nav mask i : ℕ} → Walk R s d c legs a nav
      → answer R c legs a nav ≡ accepted (onward mask) → bit mask i ≡ true
      → Walk R s d c (record { board = a; along = i } ∷ legs) (flip a i) (flip nav i)

-- the boards that a message has left
unfoldable pub boards : List Leg → List ℕ
boards [] = []
boards (l ∷ legs) = l.board ∷ boards legs

-- a is none of the boards
unfoldable pub fresh : ℕ → List ℕ → Bool
fresh a [] = true
fresh a (b ∷ bs) = not (eqb a b) && fresh a bs

-- no board twice
unfoldable pub distinct : List ℕ → Bool
unfolding fresh
distinct [] = true
distinct (b ∷ bs) = fresh b bs && distinct bs

-- every board is working
unfoldable pub all_work : Cube → List ℕ → Bool
all_work C [] = true
all_work C (b ∷ bs) = C.works b && all_work C bs

-- no leg crosses a link that counts as faulty
unfoldable pub all_sound : Cube → List Leg → Bool
all_sound C [] = true
all_sound C (l ∷ legs) = not (C.cut l.board l.along) && all_sound C legs
