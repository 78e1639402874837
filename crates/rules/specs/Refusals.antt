-- The refusals that Decide and Hop give before their rules, lowest first.
use Rattle.std.specs.Prelude.{ℕ, Bool, not, ◌&&◌, List, [], ◌∷◌}
use Rattle.std.specs.Int.Bits.{bit_xor}
use Rattle.cube.specs.Reply.{refusal}
use Rattle.report.specs.Report.{Report, cube, dimension, all_sized, within}

-- the boards of node a and destination d work: the last tests of Decide, Hop and Journey
abbrev pub both_work : Report → ℕ → ℕ → List (Bool × ℕ)
both_work R a d = (not ((cube R).works a), 5) ∷ (not ((cube R).works d), 6) ∷ []

-- Decide, at source s for destination d
unfoldable pub decide_refusal : Report → List ℕ → ℕ → ℕ → ℕ
unfolding refusal dimension all_sized within cube
decide_refusal R vectors s d =
    refusal
    ((not (dimension R.dim), 1)
    ∷ (not (all_sized R vectors), 2)
    ∷ (not (within R.dim s && within R.dim d), 4)
    ∷ both_work R s d)

-- Hop, at node a with a relative address
unfoldable pub hop_refusal : Report → List ℕ → ℕ → ℕ → ℕ
unfolding refusal dimension all_sized within cube
hop_refusal R vectors a nav =
    refusal
    ((not (dimension R.dim), 1)
    ∷ (not (all_sized R vectors), 2)
    ∷ (not (within R.dim a && within R.dim nav), 4)
    ∷ both_work R a (bit_xor a nav))
