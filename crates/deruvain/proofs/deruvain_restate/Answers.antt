-- `deruvain::deruvain_restate` meets its contract: 2 where there is no room, and else 0.
use mathlib.Core.Path.{◌≡◌, refl}
use mathlib.Core.Bool.{Bool, true, false, cond}
use Rattle.std.specs.Prelude.{Ok, Err}
use Rattle.cube.specs.Refusals.{refused_by}
use Rattle.cube.specs.declared.refusal.Refusal.TheVariants.{Length}
use Rattle.deruvain.specs.Numbers.{room_number}
use Rattle.deruvain.proofs.deruvain_restate.Goals as goal

-- the number of the one test
numbered : (fits : Bool) → refused_by (cond fits (Ok tt) (Err Length)) ≡ cond fits 0 2
numbered true = refl
numbered false = refl

pub returns-clause-answer : goal.returns-clause-answer
unfolding room_number
returns-clause-answer c = rw (c.number.ensures, c.unless-fits.ensures, numbered c.has_room.result, c.has_room.ensures) refl
