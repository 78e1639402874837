-- `vectors::show`: the loop keeps that the bytes below a show their bits.
use mathlib.Core.Path.{◌≡◌}
use Rattle.cube.proofs.Table.{written}
use Rattle.vectors.specs.Rounds.{digit}
use Rattle.vectors.proofs.show.Given as goal

abbrev pub invariant-loop-a : goal.invariant-loop-a
invariant-loop-a l = l.bytes ≡ written (digit l.vectors l.k) l.initial.bytes l.a
