-- `record::Parts::write_links` meets its contract.
use native.Mathlib.Omega.{arith}
use Rattle.record.proofs.Words.{words_written}
use Rattle.record.proofs.Parts.write_links.Goals as goal

pub returns : goal.returns
returns c = words_written _ _ _ _ c.requires (omega arith) c.loop-a.invariant
