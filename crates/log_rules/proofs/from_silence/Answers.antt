-- Over a byte 0 the log alone speaks.
use Rattle.log_rules.specs.Claims.{FromSilence}
use Rattle.log_rules.proofs.Updates.{from_zeros}
use Rattle.log_rules.proofs.from_silence.Goals as goal

pub returns : goal.returns
unfolding FromSilence
returns c = from_zeros
