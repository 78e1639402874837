-- `status_log::check_all`: the loop keeps that the records still to come refuse as all do, and how many bytes of them are no whole record.
use mathlib.Core.Path.{◌≡◌}
use Prim.Native.Nat.{◌%◌}
use lib.ListN.{length}
use Rattle.std.specs.Slice.Iter.{chunks_exact_rest, chunks_exact_size}
use Rattle.cube.specs.Reply.{refusal}
use Rattle.log_rules.specs.Log.{records}
use Rattle.log_rules.specs.Refresh.{tests}
use Rattle.status_log.proofs.check_all.Given as goal

abbrev pub invariant-loop-row : goal.invariant-loop-row
invariant-loop-row l =
    let rest = chunks_exact_rest l.row-iterator in
    (chunks_exact_size l.row-iterator ≡ 8)
    × (length rest % 8 ≡ length l.log % 8)
    × (refusal (tests l.n (records rest)) ≡ refusal (tests l.n (records l.log)))
