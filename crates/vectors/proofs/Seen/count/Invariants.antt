-- `vectors::Seen::count`: the loop keeps that the sum is the count along dimensions 1 to i.
use mathlib.Core.Path.{◌≡◌}
use Rattle.cube.specs.Count.{count}
use Rattle.safety.specs.Safety.{registered}
use Rattle.vectors.specs.Rounds.{shown, masked}
use Rattle.vectors.proofs.Seen.count.Given as goal

abbrev pub invariant-loop-i : goal.invariant-loop-i
invariant-loop-i l = l.sum ≡ count (registered (masked l.mask) (shown l.self.bytes.now) l.a) l.i
