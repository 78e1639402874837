-- What the check applies at the exits of Open: after a refusal, and past its tests.
use Rattle.cube.proofs.Refusals.{refusal_or_answer}
use Rattle.record.proofs.Refusals.{refusing, reading}

pub ruleset laws = (refusing, reading, refusal_or_answer)
