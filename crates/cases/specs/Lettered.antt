-- The lettered cases of document 01, as one table: what the definitions give, and what the document says.
use Rattle.std.specs.Prelude.{ℕ, suc, ◌≡◌, Bool, true, ◌&&◌, List, [], ◌∷◌, map, eqb, length, replicate}
use Rattle.std.specs.Int.Bits.{bit_xor}
use Rattle.std.specs.Int.Count.{ones}
use Rattle.cube.specs.Bits.{weight}
use Rattle.cube.specs.Reply.{Reply, refused, accepted}
use Rattle.report.specs.Class.{class_of}
use Rattle.report.specs.Report.{Report, report, works, cube}
use Rattle.report.specs.Cabinets.{cabinet_f, cabinet_l}
use Rattle.report.specs.declared.Class.{Class}
use Rattle.report.specs.declared.Class.TheVariants.{Silent, Working, Late, Down, Empty}
use Rattle.safety.specs.Safety.{vectors, vectors_of}
use Rattle.rules.specs.Rules.{Choice, home, assured, lent, detour}
use Rattle.journey.specs.Journey.{Route, journey}

-- what a case speaks of: a table of vectors, a journey, a path by hand, or classes
pub data Shown : Type 0 where
  words : List ℕ → Shown
  goes : Reply Route → Shown
  passable : Bool → Shown
  classed : List Class → Shown

pub record Case : Type 0 where
  pub gives : Shown
  pub says : Shown

-- a path by hand: every board is working, and each is a neighbour of the one before
unfoldable pub passes : List ℕ → List ℕ → Bool
unfolding works ones
passes status [] = true
passes status (a ∷ []) = works status a
passes status (a ∷ (b ∷ bs)) = works status a && (eqb (weight (bit_xor a b)) 1 && passes status (b ∷ bs))

-- a journey with all picks 0
unfoldable pub trip : Report → ℕ → ℕ → Shown
unfolding journey
trip R s d =
    goes (journey R (replicate (length R.status) 0) (replicate (suc R.dim) 0) (replicate (suc (suc R.dim)) 0) s d)

abbrev pub in_f : ℕ → ℕ → Shown
in_f s d = trip cabinet_f s d

abbrev pub in_l : ℕ → ℕ → Shown
in_l s d = trip cabinet_l s d

-- a journey accepted, with the boards after its source
abbrev pub by : Choice → List ℕ → Shown
by c bs = goes (accepted (record { choice = c; after = bs }))

abbrev pub refuses : ℕ → Shown
refuses m = goes (refused m)

unfoldable pub lettered : List Case
unfolding vectors cube trip passes class_of
lettered =
    -- A
    record {
      gives = words (vectors_of cabinet_f);
      says = words (11 ∷ 5 ∷ 13 ∷ 0 ∷ 0 ∷ 11 ∷ 0 ∷ 13 ∷ 15 ∷ 0 ∷ 15 ∷ 13 ∷ 15 ∷ 15 ∷ 15 ∷ 15 ∷ []);
    }
    -- B
    ∷ record { gives = in_f 1 12; says = by (assured 5 3) (0 ∷ 8 ∷ 12 ∷ []) }
    -- C
    ∷ record { gives = in_f 0 11; says = by (lent 8 3) (8 ∷ 10 ∷ 11 ∷ []) }
    -- D
    ∷ record { gives = in_f 2 7; says = by (detour 8 4) (10 ∷ 14 ∷ 15 ∷ 7 ∷ []) }
    -- E
    ∷ record { gives = in_f 0 7; says = by (detour 8 5) (8 ∷ 10 ∷ 14 ∷ 15 ∷ 7 ∷ []) }
    -- G
    ∷ record { gives = in_f 1 11; says = refuses 7 }
    ∷ record { gives = passable (passes cabinet_f.status (1 ∷ 0 ∷ 2 ∷ 10 ∷ 11 ∷ [])); says = passable true }
    -- H
    ∷ record { gives = in_f 0 0; says = by home [] }
    ∷ record { gives = in_f 3 0; says = refuses 5 }
    ∷ record { gives = in_f 0 3; says = refuses 6 }
    -- I
    ∷ record { gives = in_f 15 2; says = by (assured 1 3) (14 ∷ 10 ∷ 2 ∷ []) }
    -- J
    ∷ record { gives = in_l 14 9; says = by (assured 2 3) (12 ∷ 8 ∷ 9 ∷ []) }
    -- K
    ∷ record { gives = in_l 12 13; says = by (detour 2 3) (14 ∷ 15 ∷ 13 ∷ []) }
    -- M
    ∷ record { gives = trip (report 1 (1 ∷ 1 ∷ []) (1 ∷ 0 ∷ [])) 0 1; says = refuses 7 }
    -- N
    ∷ record {
      gives = classed (map class_of (0 ∷ 1 ∷ 4 ∷ 5 ∷ 253 ∷ 254 ∷ 255 ∷ []));
      says = classed (Silent ∷ Working ∷ Working ∷ Late ∷ Late ∷ Down ∷ Empty ∷ []);
    }
    ∷ []

-- in every case the definitions give what the document says
unfoldable pub Holds : Type 0
unfolding lettered
Holds = map (λ (c : Case). c.gives) lettered ≡ map (λ (c : Case). c.says) lettered
