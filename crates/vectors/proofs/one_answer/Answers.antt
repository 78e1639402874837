-- `vectors::one_answer` holds.
use mathlib.Core.Path.{refl}
use Rattle.cube.proofs.Refusals.{one_answer_by}
use Rattle.vectors.proofs.one_answer.Goals as goal

pub returns : goal.returns
returns c = one_answer_by (λ _. tt) (λ _. tt) (λ x. refl)
