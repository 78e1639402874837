-- What Hop answers, in the words of the rules.
use Rattle.std.specs.Prelude.{ℕ, Option, Some, None, Result}
use Rattle.cube.specs.Reply.{Reply}
use Rattle.cube.specs.Refusals.{saying}
use Rattle.cube.specs.declared.refusal.Refusal.{Refusal}
use Rattle.rules.specs.Rules.{Next, arrived, onward}

-- the mask of an offer, or none once the message has arrived
abbrev pub next : Option ℕ → Next
next (Some mask) = onward mask
next None = arrived

-- the answer in the words of the rules
abbrev pub said : Result (Option ℕ) Refusal → Reply Next
said = saying next
