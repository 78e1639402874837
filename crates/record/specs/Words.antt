-- Link words as pairs of bytes.
use Rattle.std.specs.Prelude.{ℕ, List, map}
use Rattle.record.specs.Open.{word}

-- the numbers that pairs of bytes give
unfoldable pub words_in : List (List ℕ) → List ℕ
unfolding word
words_in = map (λ (pair : List ℕ). word pair 0)
