-- Higher bits of vectors and link words aren't read.
use Rattle.std.specs.Prelude.{ℕ, ◌%◌, ◌^◌, ◌≡◌, List, [], ◌∷◌}
use Rattle.report.specs.Report.{Report, report}
use Rattle.rules.specs.Decide.{decide}
use Rattle.rules.specs.Hop.{hop}

-- words cut to their lowest n bits
unfoldable pub trimmed : ℕ → List ℕ → List ℕ
trimmed n [] = []
trimmed n (w ∷ ws) = w % 2 ^ n ∷ trimmed n ws

-- a report with its link words cut to n bits
abbrev pub trim : Report → Report
trim R = report R.dim R.status (trimmed R.dim R.links)

-- Decide and Hop answer the same where vectors and link words are cut to n bits
unfoldable pub HigherUnread : Type 0
HigherUnread =
    (R : Report) (vectors : List ℕ) (a b : ℕ)
    → (decide (trim R) (trimmed R.dim vectors) a b ≡ decide R vectors a b) × (hop (trim R) (trimmed R.dim vectors) a b ≡ hop R vectors a b)
