-- What the private functions that write may count on.
use Rattle.std.specs.Prelude.{ℕ, Bool, true, ◌&&◌, List, [], ◌∷◌, eqb, ltb, length}
use Rattle.log_rules.specs.Log.{node_in}

-- every record is whole, and its node is one of so many
unfoldable pub sound : ℕ → List (List ℕ) → Bool
sound nodes [] = true
sound nodes (r ∷ rs) = (eqb (length r) 8 && ltb (node_in r) nodes) && sound nodes rs
