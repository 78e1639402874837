-- `pick::rank`: a turn strips one dimension: k turns are made and r − k are to come, r in all, or fewer where nothing is left.
use mathlib.Core.Path.{◌≡◌}
use Prim.Native.Nat.{◌-◌}
use Rattle.cube.specs.Bits.{bit}
use Rattle.cube.specs.Count.{ranked}
use Rattle.pick.proofs.rank.Given as goal

abbrev pub invariant-loop : goal.invariant-loop
invariant-loop l = ranked (bit l.left) (l.r - l.counter) l.n ≡ ranked (bit l.mask) l.r l.n
