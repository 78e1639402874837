-- Wu's Definition 1: the safety vectors of a cube.
use Rattle.std.specs.Prelude.{◌≡◌, ℕ, zero, suc, ◌-◌, ◌^◌, ◌<◌, Bool, true, not, ◌&&◌, List, leb}
use Rattle.cube.specs.Bits.{flip}
use Rattle.cube.specs.Count.{pack, count, any}
use Rattle.cube.specs.Table.{table}
use Rattle.report.specs.Health.{Cube}
use Rattle.report.specs.Report.{Report, cube}

-- the bit of a's neighbour along dimension i, as registered at a: the neighbour's own, but 0 across a link that counts as faulty
unfoldable pub registered : (ℕ → ℕ → Bool) → (ℕ → Bool) → ℕ → ℕ → Bool
unfolding flip
registered cut bits a i = not (cut a i) && bits (flip a i)

-- a bit by the neighbours' bits k−1: 0 if their sum, as registered at a, is at most n−k, else 1
unfoldable pub supported : Cube → (ℕ → Bool) → ℕ → ℕ → Bool
unfolding registered count
supported C bits k a = not (leb (count (registered C.cut bits a) C.dim) (C.dim - k))

-- Bit k of node a. Bit 0 is 1. Bit 1 of a working board is 0 if some link of it counts as faulty, else 1. Bit k from 2 of a working board is 0
-- if the sum of its neighbours' bits k−1, as registered, is at most n−k, else 1. A board that isn't working has all bits from 1 equal to 0.
unfoldable pub safe : Cube → ℕ → ℕ → Bool
unfolding supported any
safe C zero a = true
safe C (suc zero) a = C.works a && not (any (C.cut a) C.dim)
safe C (suc (suc k)) a = C.works a && supported C (safe C (suc k)) (suc (suc k)) a

-- the bits of node a, by their numbers
unfoldable pub bits_of : Cube → ℕ → ℕ → Bool
unfolding safe
bits_of C a k = safe C k a

-- the vector of node a: bit k at weight 2^(k−1), zero above n
unfoldable pub vector : Cube → ℕ → ℕ
unfolding bits_of pack
vector C a = pack (bits_of C a) C.dim

-- the vectors of all nodes
unfoldable pub vectors : Cube → List ℕ
unfolding vector table
vectors C = table (vector C) (2 ^ C.dim)

-- the vectors of the cube that a report describes
abbrev pub vectors_of : Report → List ℕ
vectors_of R = vectors (cube R)

-- with bit 0 taken as 1, every bit from 1 obeys one recurrence
abbrev pub Recurrence : Type 0
Recurrence = (C : Cube) (k a : ℕ) → 0 < C.dim → safe C (suc k) a ≡ (C.works a && supported C (safe C k) (suc k) a)
