-- `report::limit` meets its contract.
use Prim.Native.Nat.{min}
use native.Mathlib.Omega.{arith}
use Rattle.std.proofs.lemmas.Nat.{one_shl}
use Rattle.report.proofs.limit.Goals as goal

pub returns : goal.returns
returns c = rw c.min.ensures (one_shl (min c.args.n 16) 32 (omega arith))
