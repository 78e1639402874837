-- `cube::crossed` meets its contract: from 1 to 10 the dimension is crossed, and below and above it is not.
use borrow.Author.Tests.{le-leb}
use Prim.Native.Nat.{◌≤◌}
use native.Mathlib.Omega.{arith}
use Rattle.cube.specs.Bits.{crossed}
use Rattle.cube.proofs.Bits.{place_shift}
use Rattle.cube.proofs.crossed.Goals as goal

pub returns-in-1-to-10 : goal.returns-in-1-to-10
unfolding crossed
returns-in-1-to-10 c =
    let i = c.args.i in
    let l : 1 ≤ i = omega arith in
    let h : i ≤ 10 = omega arith in
    rw (place_shift i l (omega arith), le-leb 1 i l, le-leb i 10 h)
