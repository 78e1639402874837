-- What Refresh and Update answer.
use Rattle.std.specs.Prelude.{ℕ, Result}
use Rattle.cube.specs.Reply.{Reply}
use Rattle.cube.specs.Refusals.{saying}
use Rattle.cube.specs.declared.refusal.Refusal.{Refusal}

-- the answer in the words of the rules
abbrev pub said : Result ℕ Refusal → Reply ℕ
said = saying (λ n. n)
