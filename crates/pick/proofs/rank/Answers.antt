-- `pick::rank` meets its contract.
use mathlib.Core.Path.{ap, sym, ◌∙◌}
use Prim.Native.Nat.{◌+◌, ◌-◌}
use native.Mathlib.Nat.{sub-zero}
use native.Mathlib.Numerals.{add-one}
use native.Mathlib.Omega.{arith}
use lib.Count.{count_trailing_zeros, trailing_of_zero}
use Rattle.cube.proofs.Strip.{ranked_strip, lowest, lowest_none}
use Rattle.pick.specs.Pick.{named}
use Rattle.pick.proofs.rank.Goals as goal

pub loop-init : goal.loop-init
loop-init c = rw sub-zero

pub loop-preserved : goal.loop-preserved
loop-preserved c =
    let a = c.args in
    let l = c.loop in
    ranked_strip l.left (a.r - l.counter) (a.r - (l.counter + 1)) a.n (omega arith) ∙ l.invariant

pub returns-then-left-eq0 : goal.returns-then-left-eq0
returns-then-left-eq0 c =
    let a = c.args in
    let l = c.loop in
    ap named (sym (lowest_none 16 l.left (a.r - l.counter) a.n (omega (arith, ap (count_trailing_zeros 16) c.if-left-eq0.true, trailing_of_zero 16))) ∙ l.invariant)

pub returns-then-n-i : goal.returns-then-n-i
returns-then-n-i c =
    let a = c.args in
    let l = c.loop in
    ap named (sym (lowest_none 16 l.left (a.r - l.counter) a.n (omega arith)) ∙ l.invariant)

pub returns-else-n-i : goal.returns-else-n-i
returns-else-n-i c =
    let a = c.args in
    let l = c.loop in
    rw add-one (ap named (rw add-one at (sym (lowest 16 l.left (a.r - l.counter) a.n (omega arith) (omega arith) (omega arith)) ∙ l.invariant)))
