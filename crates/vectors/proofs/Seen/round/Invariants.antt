-- `vectors::Seen::round`: the loop keeps that it is in the midst of round k at board a.
use Rattle.vectors.specs.Seen.{seen}
use Rattle.vectors.proofs.Rounds.{Midst}
use Rattle.vectors.proofs.Seen.round.Given as goal

abbrev pub invariant-loop-a : goal.invariant-loop-a
invariant-loop-a l = Midst (seen l.self) l.k l.a l.vectors
