-- The promise is not empty: a whole walk of each kind in cabinet F.
use Rattle.std.specs.Prelude.{ℕ, List, [], ◌∷◌}
use Rattle.report.specs.Cabinets.{cabinet_f}
use Rattle.rules.specs.Rules.{Choice, home, assured, lent, detour}
use Rattle.arrival.specs.Walk.{Leg, Walk}

abbrev pub leg : ℕ → ℕ → Leg
leg a i = record { board = a; along = i }

-- a walk in cabinet F that has arrived
abbrev pub InF : ℕ → ℕ → Choice → List Leg → Type 0
InF s d c legs = Walk cabinet_f s d c legs d 0

-- 0 to 0; 1 to 12 by 1 0 8 12; 0 to 11 by 0 8 10 11; 2 to 7 by 2 10 14 15 7
unfoldable pub Examples : Type 0
Examples =
    InF 0 0 home []
    × InF 1 12 (assured 5 3) (leg 8 3 ∷ leg 0 4 ∷ leg 1 1 ∷ [])
    × InF 0 11 (lent 8 3) (leg 10 1 ∷ leg 8 2 ∷ leg 0 4 ∷ [])
    × InF 2 7 (detour 8 4) (leg 15 4 ∷ leg 14 1 ∷ leg 10 3 ∷ leg 2 4 ∷ [])
