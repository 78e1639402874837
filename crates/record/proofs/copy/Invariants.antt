-- `record::copy`: the loop keeps that the places so far are written.
use mathlib.Core.Path.{◌≡◌}
use Rattle.cube.proofs.Table.{written}
use Rattle.record.proofs.Words.{byte_at}
use Rattle.record.proofs.copy.Given as goal

abbrev pub invariant-loop-a : goal.invariant-loop-a
invariant-loop-a l = l.places ≡ written (byte_at l.bytes) l.initial.places l.a
