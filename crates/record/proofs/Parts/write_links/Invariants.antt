-- `record::Parts::write_links`: the loop keeps that the places so far are written.
use mathlib.Core.Path.{◌≡◌}
use Rattle.cube.proofs.Table.{written}
use Rattle.record.proofs.Words.{number_at}
use Rattle.record.proofs.Parts.write_links.Given as goal

abbrev pub invariant-loop-a : goal.invariant-loop-a
invariant-loop-a l = l.links ≡ written (number_at l.self.links.now) l.initial.links l.a
