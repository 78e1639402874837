-- `report::sized` meets its contract: no slice has 2^64 entries.
use mathlib.Core.Path.{◌≡◌, ap, sym}
use Prim.Native.Nat.{◌^◌}
use native.Mathlib.Omega.{arith}
use borrow.Author.Tests.{ne_eqb}
use lib.Dec.{eqb}
use lib.Pow.{pow_mono}
use Rattle.std.proofs.lemmas.Nat.{one_shl}
use Rattle.report.proofs.sized.Goals as goal

pub returns-then-n-gt63 : goal.returns-then-n-gt63
returns-then-n-gt63 c = sym (ne_eqb _ _ (λ (e : c.args.length ≡ 2 ^ c.args.n). omega (arith, pow_mono {i = 64} {j = c.args.n} c.if-n-gt63.true, c.ranges.length)))

pub returns : goal.returns
returns c = ap (eqb c.args.length) (one_shl c.args.n 64 (omega arith))
