-- `vectors::all_rounds` meets its contract.
use mathlib.Core.Path.{ap, ◌∙◌}
use Prim.Native.Nat.{ℕ}
use lib.ListN.{length, replicate}
use Rattle.cube.proofs.Table.{length_table}
use Rattle.report.specs.Report.{reported}
use Rattle.vectors.specs.Rounds.{digit, known}
use Rattle.vectors.proofs.Rounds.{after_none, digits_of, digits_first}
use Rattle.vectors.proofs.all_rounds.Goals as goal

pub loop-k-init : goal.loop-k-init
unfolding known
loop-k-init c = (c.fill.ensures.after (λ y e. e) ∙ ap (λ (m : ℕ). replicate m 0) c.requires.2 ∙ after_none (known (reported c.args.report.now) c.args.masks.now), c.requires.1 ∙ digits_first _ _)

pub invariant_of-seen : goal.invariant_of-seen
invariant_of-seen c =
    let l = c.loop-k in
    record {
      fit = c.requires.0;
      sized = ap length l.invariant.1 ∙ length_table (digit l.vectors l.k) _;
      digits = rw l.invariant.1 (digits_of l.vectors l.k _);
    }
