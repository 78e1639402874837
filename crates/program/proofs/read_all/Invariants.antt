-- `program::read_all` ends: what is left of the room shrinks. What stands in the room so far is what the reader gave.
use Rattle.std.proofs.Common.{length, ◌-◌, ◌≤◌, take}
use Rattle.std.specs.Io.KnownBytes.{Consumes}
use Rattle.program.proofs.read_all.Given as goal

abbrev pub invariant-loop-count : goal.invariant-loop-count
invariant-loop-count g l = (l.count ≤ length l.room) × Consumes (g.R.Read.remaining l.initial.from) (g.R.Read.remaining l.from) (take l.count l.room)

abbrev pub decreases-loop-count : goal.decreases-loop-count
decreases-loop-count g l = length l.room - l.count
