-- `held::bit_of` meets its contract.
use Prim.Native.Nat.{◌%◌}
use native.Mathlib.Omega.{arith}
use Rattle.held.proofs.Held.{held_digit}
use Rattle.held.proofs.bit_of.Goals as goal

pub returns : goal.returns
returns c = record { digit = held_digit c.args.word (c.args.k % 32); small = omega arith }
