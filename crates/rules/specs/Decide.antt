-- Decide: the decision at a source s for a destination d, over lent vectors.
use Rattle.std.specs.Prelude.{ℕ, List}
use Rattle.std.specs.Int.Bits.{bit_xor}
use Rattle.std.specs.Int.Count.{ones}
use Rattle.cube.specs.Bits.{weight}
use Rattle.cube.specs.Reply.{Reply, unless}
use Rattle.report.specs.Report.{Report, cube}
use Rattle.held.specs.Held.{own}
use Rattle.rules.specs.Refusals.{decide_refusal}
use Rattle.rules.specs.Rules.{Choice, at_source}

-- what it answers
unfoldable pub decide : Report → List ℕ → ℕ → ℕ → Reply Choice
unfolding decide_refusal unless at_source own cube ones
decide R vectors s d =
    unless (decide_refusal R vectors s d)
    (at_source (cube R).dim (cube R).cut (own vectors) s (bit_xor s d) (weight (bit_xor s d)))
