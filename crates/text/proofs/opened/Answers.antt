-- `text::opened` meets its contract: over 4,096 bytes are refused, and else Open answers.
use mathlib.Core.Path.{◌≡◌}
use Prim.Native.Nat.{◌*◌, ◌%◌, ◌^◌}
use native.Mathlib.Omega.{arith}
use borrow.Author.Tests.{leb-true, leb-false}
use lib.Pow.{pow_mono}
use Rattle.std.proofs.lemmas.Result.{err_from_is_err_and}
use Rattle.cube.proofs.Refusals.{failed, holds}
use Rattle.std.proofs.lemmas.Nat.{one_shl}
use Rattle.text.proofs.Answers.{too_long, not_read, text_read, Read, read}
use Rattle.text.proofs.opened.Goals as goal
use Rattle.text.proofs.opened.Goals.{In_ok-n}

pub returns-in_err-unless : goal.returns-in_err-unless
returns-in_err-unless c =
    let p = err_from_is_err_and c.from_residual.result c.from_residual.ensures.1 in
    let long = failed _ _ _ c.in_err-unless.ensures in
    rw (p.1, p.2, long.1) (too_long c.args.bytes.now (leb-false _ _ long.0))

pub returns-in_err-n : goal.returns-in_err-n
returns-in_err-n c =
    let p = err_from_is_err_and c.from_residual-in_err-n.result c.from_residual-in_err-n.ensures.1 in
    let short = holds _ _ _ c.in_ok-unless.ensures in
    rw (p.1, p.2) (not_read c.args.bytes.now _ (leb-true _ _ short) (rw (c.requires.0, c.requires.1) at c.in_err-n.ensures.answer))

known : (c : In_ok-n) → Read c.args.bytes.now c.in_ok-n.n c.open.new.status c.open.new.links
known c =
    let r = c.in_ok-n.ensures in
    read c.args.bytes.now c.in_ok-n.n _ _ (rw (c.requires.0, c.requires.1) at r.answer) (rw (c.requires.0, c.requires.1) at r.boards) (rw (c.requires.0, c.requires.1) at r.words)

pub overflow_shl-nodes : goal.overflow_shl-nodes
overflow_shl-nodes c = omega (arith, (known c).fits.high)

-- as many nodes as the shift gives
shifted : (c : In_ok-n) → 1 * 2 ^ c.in_ok-n.n % 18446744073709551616 ≡ 2 ^ c.in_ok-n.n
shifted c = one_shl c.in_ok-n.n 64 (omega (arith, (known c).fits.high))

pub shared_ref_as_front-result : goal.shared_ref_as_front-result
shared_ref_as_front-result c = omega (arith, shifted c, pow_mono {i = c.in_ok-n.n} {j = 10} (known c).fits.high)

pub returns : goal.returns
returns c =
    let here = (goal.at.returns c).In_ok-n in
    text_read c.args.bytes.now c.in_ok-n.n _ c.open.new.status c.open.new.links (shifted here) (leb-true _ _ (holds _ _ _ c.in_ok-unless.ensures)) (rw (c.requires.0, c.requires.1) at c.in_ok-n.ensures.answer) (known here)
