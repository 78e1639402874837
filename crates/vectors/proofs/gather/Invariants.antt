-- `vectors::gather`: the loop keeps that the masks below a are written.
use mathlib.Core.Path.{◌≡◌}
use Rattle.cube.proofs.Table.{written}
use Rattle.vectors.specs.Rounds.{faults}
use Rattle.vectors.proofs.gather.Given as goal

abbrev pub invariant-loop-a : goal.invariant-loop-a
invariant-loop-a l = l.masks ≡ written (faults l.report.n l.report.links.now) l.initial.masks l.a
