-- The fields that Open reads are kept, and the status bytes are those given.
use mathlib.Core.Path.{◌∙◌}
use Prim.Native.Nat.{◌+◌, ◌≤◌}
use native.Mathlib.Omega.{arith}
use lib.ListN.{length}
use Rattle.record.specs.Restate.{ReadsBack}
use Rattle.record.proofs.Refusals.{readable}
use Rattle.record.proofs.Restated.{refusal_kept, n_kept, status_read, links_kept}
use Rattle.record.proofs.reads_back.Goals as goal

pub returns : goal.returns
unfolding ReadsBack
returns c =
    λ bytes given status links none sized.
    let size = (readable bytes status links none).size in
    let room : 5 + length given ≤ length bytes = omega arith in (
      refusal_kept bytes given room sized status links ∙ none,
      (n_kept bytes given room sized, (status_read bytes given room sized, links_kept bytes given room sized)),
    )
