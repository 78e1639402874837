-- A table of one word for each node.
use Rattle.std.specs.Prelude.{ℕ, zero, suc, List, [], ◌∷◌}

-- f a, f (a + 1), .., k of them
unfoldable pub from : (ℕ → ℕ) → ℕ → ℕ → List ℕ
from f a zero = []
from f a (suc k) = f a ∷ from f (suc a) k

-- f 0, f 1, .., k of them
unfoldable pub table : (ℕ → ℕ) → ℕ → List ℕ
unfolding from
table f k = from f 0 k
