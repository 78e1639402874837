-- `vectors::Seen::round` meets its contract.
use mathlib.Core.Path.{◌≡◌, ap, ◌∙◌}
use Prim.Native.Nat.{suc, ◌+◌, ◌*◌, ◌%◌, ◌^◌, ◌<◌}
use native.Mathlib.Omega.{arith}
use native.Mathlib.Nat.{lt_of_lt_of_le}
use lib.ListN.{get_or}
use lib.Pow.{pow_mono}
use Rattle.cube.specs.Count.{one}
use Rattle.vectors.specs.Rounds.{up_to, known}
use Rattle.vectors.specs.Seen.{seen}
use Rattle.vectors.proofs.Rounds.{midst_start, midst_end, midst_step, midst_word, up_to_lt, shown_next}
use Rattle.vectors.proofs.Seen.round.Goals as goal
use Rattle.vectors.proofs.Seen.round.Goals.{After-next_bit}

at_board : (c : After-next_bit) → c.loop-a.a < 2 ^ c.args.self.now.report.n
unfolding known
at_board c = omega (arith, c.loop-a.invariant.long)

-- what is stored at board a
word : (c : After-next_bit)
    → get_or c.loop-a.vectors c.loop-a.a 0 + c.next_bit.result * 2 ^ c.args.k % 65536 ≡ up_to (seen c.args.self.now) (suc c.args.k) c.loop-a.a
unfolding known
word c =
    let a = c.args in
    let l = c.loop-a in
    let C = seen a.self.now in
    midst_word C a.k l.a l.vectors l.invariant (at_board c) (omega arith) _
    (c.next_bit.ensures ∙ ap one (shown_next C a.k a.vectors.now a.self.now.bytes.now c.requires.1 c.requires.2 (omega arith) l.a (at_board c)))

pub loop-a-init : goal.loop-a-init
loop-a-init c = midst_start _ _ _ c.requires.1

pub next_bit-requires : goal.next_bit-requires
unfolding known
next_bit-requires c = (c.requires.0, omega (arith, c.loop-a.invariant.long))

pub overflow_add-vector : goal.overflow_add-vector
overflow_add-vector c =
    let a = c.args in
    record { fits = rw (word (goal.at.overflow_add-vector c).After-next_bit) (lt_of_lt_of_le (up_to_lt (seen a.self.now) (suc a.k) c.loop-a.a) (pow_mono {i = suc a.k} {j = 16} (omega arith))) }

pub loop-a-preserved : goal.loop-a-preserved
unfolding known
loop-a-preserved c =
    let here = (goal.at.loop-a-preserved c).After-next_bit in
    midst_step (seen c.args.self.now) c.args.k c.loop-a.a c.loop-a.vectors c.loop-a.invariant (at_board here) _ (word here)

pub returns : goal.returns
returns c = midst_end _ _ c.loop-a.a _ (omega arith) c.loop-a.invariant
