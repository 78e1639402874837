-- What the check applies in `tested`, `refresh` and `update`.
use mathlib.Core.Path.{◌≡◌, refl}
use mathlib.Core.Bool.{not, cond}
use mathlib.Core.List.{List}
use Prim.Native.Nat.{ℕ}
use Rattle.cube.specs.Reply.{refusal}
use Rattle.cube.proofs.Refusals.{tests_in_turn, refusal_or_answer}
use Rattle.report.specs.Report.{dimension, sized}
use Rattle.log_rules.specs.Log.{records}
use Rattle.log_rules.specs.Refresh.{log_refusal, tests}
use Rattle.log_rules.proofs.Updates.{sound_none, refresh_done}

-- the tests of a log, one after another
pub in_turn : (n : ℕ) (log status : List ℕ) → log_refusal n log status ≡ cond (not (dimension n)) 1 (cond (not (sized n status)) 2 (refusal (tests n (records log))))
unfolding log_refusal refusal
in_turn n log status = refl

pub ruleset log_in_turn = (tests_in_turn, in_turn)

-- and at the exits of a job on a log
pub ruleset log_answered = (refusal_or_answer, sound_none, refresh_done)
