-- `Message::spare` meets its contract.
use mathlib.Core.Path.{ap, sym, ◌∙◌}
use Prim.Native.Nat.{ℕ, ◌-◌}
use native.Mathlib.Omega.{arith}
use Rattle.std.proofs.lemmas.Nat.{one_shl}
use Rattle.rules.proofs.Rules.{spare_rest}
use Rattle.routing.proofs.Message.spare.Goals as goal

pub returns : goal.returns
returns c =
    let m = c.args.self.now in
    ap (λ (x : ℕ). x - 1 - m.nav.0) (one_shl m.report.now.n 16 (omega (arith, m.small))) ∙ sym (spare_rest m.report.now.n m.nav.0 m.nav_inside)
