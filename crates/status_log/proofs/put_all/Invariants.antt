-- `status_log::put_all`: the loop keeps that the bytes so far and the records still to come say what all say.
use mathlib.Core.Path.{◌≡◌}
use mathlib.Core.Bool.{true}
use Prim.Native.Nat.{◌+◌, ◌≤◌}
use lib.ListN.{length}
use Rattle.std.specs.Slice.Iter.{chunks_exact_rest, chunks_exact_size}
use Rattle.log_rules.specs.Log.{records, skipped}
use Rattle.log_rules.specs.Sound.{sound}
use Rattle.log_rules.proofs.Updates.{Told}
use Rattle.status_log.proofs.put_all.Given as goal

abbrev pub invariant-loop-row : goal.invariant-loop-row
invariant-loop-row l =
    let rest = chunks_exact_rest l.row-iterator in
    (chunks_exact_size l.row-iterator ≡ 8)
    × (l.count + length rest ≤ length l.log)
    × (sound (length l.initial.status) (records rest) ≡ true)
    × (l.count + skipped l.sweep (records rest) ≡ skipped l.sweep (records l.log))
    × (length l.status ≡ length l.initial.status)
    × Told l.sweep l.log l.initial.status rest l.status
