-- `program::boards` meets its contract: up to 10 no bit is shifted out.
use mathlib.Core.Path.{◌≡◌}
use Prim.Native.Nat.{ℕ, ◌*◌, ◌%◌, ◌^◌, ◌≤◌}
use native.Mathlib.Omega.{arith}
use lib.Pow.{pow_mono}
use Rattle.std.proofs.lemmas.Nat.{one_shl}
use Rattle.program.proofs.boards.Goals as goal

shifted : (n : ℕ) → n ≤ 10 → 1 * 2 ^ n % 18446744073709551616 ≡ 2 ^ n
shifted n h = one_shl n 64 (omega arith)

pub returns-clause-few : goal.returns-clause-few
returns-clause-few c =
    let n = c.min.result in
    omega (arith, c.min.ensures, shifted n (omega (arith, c.min.ensures)), pow_mono {i = n} {j = 10} (omega (arith, c.min.ensures)))

pub returns-clause-power : goal.returns-clause-power
returns-clause-power c = rw (← c.min.ensures) (shifted c.min.result (omega (arith, c.min.ensures)))
