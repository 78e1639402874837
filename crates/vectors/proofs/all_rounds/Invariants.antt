-- `vectors::all_rounds`: the loop keeps that the vectors are those after round k, and that the bytes show bit k.
use mathlib.Core.Path.{◌≡◌}
use Prim.Native.Nat.{◌^◌}
use Rattle.cube.specs.Table.{table}
use Rattle.report.specs.Report.{reported}
use Rattle.vectors.specs.Rounds.{after, digit, known}
use Rattle.vectors.proofs.all_rounds.Given as goal

abbrev pub invariant-loop-k : goal.invariant-loop-k
invariant-loop-k l =
    (l.vectors ≡ after (known (reported l.report) l.masks) l.k) × (l.bytes ≡ table (digit l.vectors l.k) (2 ^ l.report.n))
