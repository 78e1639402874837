-- `vectors::Seen::count` meets its contract.
use mathlib.Core.Path.{refl, ap, ◌∙◌}
use Prim.Native.Nat.{suc, ◌*◌, ◌/◌, ◌%◌, ◌^◌}
use lib.Bits.{bit_xor}
use lib.ListN.{get_or}
use native.Mathlib.Omega.{arith}
use native.Mathlib.Numerals.{add-one}
use Rattle.cube.specs.Count.{one, count}
use Rattle.cube.proofs.Bits.{flip_lt, flip_next}
use Rattle.cube.proofs.Count.{count_le, count_more, one_bit_next, unless_le}
use Rattle.safety.specs.Safety.{registered}
use Rattle.safety.proofs.Safety.{registered_digit}
use Rattle.vectors.specs.Rounds.{shown, masked}
use Rattle.vectors.proofs.Rounds.{shown_digit}
use Rattle.vectors.proofs.Seen.count.Goals as goal

pub loop-i-init : goal.loop-i-init
unfolding count
loop-i-init c = refl

pub bounds-self-b : goal.bounds-self-b
bounds-self-b c =
    let s = c.args.self.now in
    rw (flip_next c.args.a c.loop-i.i 64 (omega arith), s.sized) (flip_lt s.report.n c.args.a (suc c.loop-i.i) c.requires.1 (omega arith))

pub overflow_add-sum : goal.overflow_add-sum
overflow_add-sum c =
    let a = c.args in
    let b = bit_xor a.a (1 * 2 ^ c.loop-i.i % 18446744073709551616) in
    omega (arith, count_le (registered (masked a.mask) (shown a.self.now.bytes.now) a.a) c.loop-i.i, unless_le (a.mask / 2 ^ c.loop-i.i % 2) (get_or a.self.now.bytes.now b 0) (a.self.now.digits b))

pub loop-i-preserved : goal.loop-i-preserved
unfolding masked
loop-i-preserved c =
    let a = c.args in
    let s = a.self.now in
    let bits = shown s.bytes.now in
    count_more (registered (masked a.mask) bits a.a) _ _ _ c.loop-i.invariant
    (registered_digit (masked a.mask) bits a.a (suc c.loop-i.i) _ _ (rw add-one at (one_bit_next a.mask c.loop-i.i))
    (shown_digit s.bytes.now s.digits _ ∙ ap one (ap bits (flip_next a.a c.loop-i.i 64 (omega arith)))))
