-- Hop: the hop at a later node with a relative address, over lent vectors.
use Rattle.std.specs.Prelude.{ℕ, List}
use Rattle.std.specs.Int.Count.{ones}
use Rattle.cube.specs.Bits.{weight}
use Rattle.cube.specs.Reply.{Reply, unless}
use Rattle.report.specs.Report.{Report, cube}
use Rattle.held.specs.Held.{own}
use Rattle.rules.specs.Refusals.{hop_refusal}
use Rattle.rules.specs.Rules.{Next, at_node}

-- what it answers
unfoldable pub hop : Report → List ℕ → ℕ → ℕ → Reply Next
unfolding hop_refusal unless at_node own cube ones
hop R vectors a nav = unless (hop_refusal R vectors a nav) (at_node (cube R).dim (cube R).cut (own vectors) a nav (weight nav))
