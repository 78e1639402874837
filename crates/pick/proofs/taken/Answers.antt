-- `pick::taken` meets its contract.
use mathlib.Core.Path.{ap, sym, ◌∙◌}
use Prim.Native.Nat.{min}
use native.Mathlib.Omega.{arith}
use Rattle.cube.specs.Bits.{bit}
use Rattle.cube.specs.Count.{ranked}
use Rattle.cube.proofs.Count.{count_mono, ranked_none, weight_below}
use Rattle.pick.specs.Pick.{named, taken}
use Rattle.pick.proofs.Pick.{ranked_top}
use Rattle.pick.proofs.taken.Goals as goal

pub returns-then-offered-eq0 : goal.returns-then-offered-eq0
unfolding taken
returns-then-offered-eq0 c =
    let a = c.args in
    ap named (sym (ranked_none (bit a.mask) _ (min a.n 16)
    (omega (arith, count_mono (bit a.mask) (min a.n 16) 16 (omega arith), weight_below 16 a.mask c.ranges.mask.fits, c.if-offered-eq0.true)))
    ∙ ranked_top a.mask _ a.n c.ranges.mask.fits)

pub returns : goal.returns
unfolding taken
returns c =
    let a = c.args in
    c.rank.ensures ∙ ap named (ap (ranked (bit a.mask) _) c.min.ensures ∙ ranked_top a.mask _ a.n c.ranges.mask.fits)
