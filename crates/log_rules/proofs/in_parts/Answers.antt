-- A log of whole records has its records, and those of the next part follow.
use mathlib.Core.Path.{◌≡◌}
use Prim.Native.Nat.{◌/◌, ◌*◌}
use native.Mathlib.Omega.{arith}
use lib.ListN.{length}
use Rattle.log_rules.specs.Log.{records}
use Rattle.log_rules.specs.Claims.{InParts}
use Rattle.log_rules.proofs.Records.{records_append}
use Rattle.log_rules.proofs.Refusals.{log_refusal_append}
use Rattle.log_rules.proofs.Updates.{skipped_append, updated_append}
use Rattle.log_rules.proofs.in_parts.Goals as goal

pub returns : goal.returns
unfolding InParts
returns c =
    λ n sweep log more status whole.
    let k = length log / 8 in
    let e : length log ≡ 8 * k = omega (arith, whole) in (
      log_refusal_append n k log more status e,
      (rw (records_append k log more e) (skipped_append sweep (records log) (records more)), updated_append sweep k log more status e),
    )
