-- What a kind says tells it apart.
use mathlib.Core.Path.{◌≡◌, refl}
use Rattle.rules.specs.Rules.{Choice, home, assured, lent, detour}
use Rattle.routing.specs.Decide.{chosen}
use Rattle.routing.specs.declared.Kind.{Kind}
use Rattle.routing.specs.declared.Kind.TheVariants.{Home, Assured, Lent, Detour}

-- the kind that says a choice
abbrev pub kind_of : Choice → Kind
kind_of home = Home
kind_of (assured p h) = Assured (record { mask = p; hops = h })
kind_of (lent p h) = Lent (record { mask = p; hops = h })
kind_of (detour q h) = Detour (record { mask = q; hops = h })

pub kind_back : (k : Kind) → kind_of (chosen k) ≡ k
kind_back Home = refl
kind_back (Assured o) = refl
kind_back (Lent o) = refl
kind_back (Detour o) = refl
