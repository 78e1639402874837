-- `held::registered` meets its contract.
use mathlib.Core.Path.{ap, ap₂, ◌∙◌}
use mathlib.Core.Bool.{Bool, not, ◌&&◌}
use Prim.Native.Nat.{ℕ}
use native.Mathlib.Omega.{arith}
use lib.ListN.{get_or}
use Rattle.safety.specs.Safety.{registered}
use Rattle.held.specs.Held.{held, own}
use Rattle.held.proofs.Held.{held_is}
use Rattle.held.proofs.registered.Goals as goal

pub returns : goal.returns
unfolding own registered
returns c =
    let a = c.args in
    ap₂ (λ (cut bit : Bool). not cut && bit) c.faulty.ensures
    (held_is _ a.k _ (omega (arith, c.requires.1)) c.bit_of.ensures.digit ∙ ap (λ (x : ℕ). held (get_or a.vectors.now x 0) a.k) c.across.ensures)
