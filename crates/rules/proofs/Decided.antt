-- What is known of a decision.
use mathlib.Core.Path.{◌≡◌, refl}
use mathlib.Core.List.{List}
use Prim.Native.Nat.{ℕ, ◌+◌, ◌≤◌}
use lib.Bits.{bit_xor, xor_lt}
use Rattle.cube.specs.Bits.{weight}
use Rattle.cube.specs.Reply.{accepted}
use Rattle.cube.proofs.Reply.{unless_accepted}
use Rattle.report.specs.Report.{Report, cube}
use Rattle.held.specs.Held.{own}
use Rattle.rules.specs.Rules.{Choice, hops_of}
use Rattle.rules.specs.Decide.{decide}
use Rattle.rules.proofs.Rules.{source_hops}
use Rattle.rules.proofs.Refusals.{decide_clear}

-- no accepted message makes more than n + 1 hops
pub decide_hops : (R : Report) (vectors : List ℕ) (s d : ℕ) (c : Choice) → decide R vectors s d ≡ accepted c → hops_of c ≤ R.dim + 1
unfolding decide cube
decide_hops R vectors s d c e =
    let (z, r) = unless_accepted _ _ c e in
    let k = decide_clear R vectors s d z in
    source_hops R.dim (cube R).cut (own vectors) s (bit_xor s d) (weight (bit_xor s d)) c (xor_lt R.dim s d k.node k.other) refl r
