-- `held::across` meets its contract.
use native.Mathlib.Omega.{arith}
use Rattle.cube.proofs.Bits.{flip_next}
use Rattle.held.proofs.across.Goals as goal

pub returns : goal.returns
returns c = flip_next c.args.a c.args.i 64 (omega arith)
