-- `record::copy` meets its contract.
use native.Mathlib.Omega.{arith}
use Rattle.record.proofs.Words.{bytes_written}
use Rattle.record.proofs.copy.Goals as goal

pub returns : goal.returns
returns c = bytes_written _ _ _ _ c.requires (omega arith) c.loop-a.invariant
