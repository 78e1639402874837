-- `vectors::show` meets its contract.
use native.Mathlib.Omega.{arith}
use Rattle.cube.proofs.Table.{written_none, written_next}
use Rattle.held.specs.Held.{own}
use Rattle.held.proofs.Held.{held_mod}
use Rattle.vectors.specs.Rounds.{digit}
use Rattle.vectors.proofs.show.Goals as goal

pub loop-a-init : goal.loop-a-init
loop-a-init c = written_none _ _

pub loop-a-preserved : goal.loop-a-preserved
unfolding digit own
loop-a-preserved c =
    let a = c.args in
    let l = c.loop-a in
    written_next (digit a.vectors.now a.k) a.bytes.now l.bytes l.a _ (omega arith) l.invariant (held_mod _ a.k _ (omega arith) c.bit_of.ensures.digit)
