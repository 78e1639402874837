-- `status_log::one_answer` holds: an answer is told by its count, or by its refusal's number.
use mathlib.Core.Path.{refl}
use Rattle.cube.proofs.Refusals.{one_answer_by}
use Rattle.status_log.proofs.one_answer.Goals as goal

pub returns : goal.returns
returns c = one_answer_by (λ n. n) (λ n. n) (λ n. refl)
