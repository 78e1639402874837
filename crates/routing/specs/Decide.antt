-- What Decide answers, in the words of the rules.
use Rattle.std.specs.Prelude.{Result}
use Rattle.cube.specs.Reply.{Reply}
use Rattle.cube.specs.Refusals.{saying}
use Rattle.cube.specs.declared.refusal.Refusal.{Refusal}
use Rattle.rules.specs.Rules.{Choice, home, assured, lent, detour}
use Rattle.routing.specs.declared.Kind.{Kind}
use Rattle.routing.specs.declared.Kind.TheVariants.{Home, Assured, Lent, Detour}

-- what each kind says
abbrev pub chosen : Kind → Choice
chosen Home = home
chosen (Assured o) = assured o.mask o.hops
chosen (Lent o) = lent o.mask o.hops
chosen (Detour o) = detour o.mask o.hops

-- the answer in the words of the rules
abbrev pub said : Result Kind Refusal → Reply Choice
said = saying chosen
