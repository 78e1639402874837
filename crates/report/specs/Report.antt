-- A cabinet report, and what it says: which boards work, which links count as faulty, and which reports are acceptable.
use Rattle.std.specs.Prelude.{◌≡◌, ℕ, ◌^◌, Bool, true, ◌&&◌, ◌||◌, List, [], ◌∷◌, eqb, leb, ltb, length, get_or}
use Rattle.cube.specs.Bits.{bit, flip}
use Rattle.report.specs.Class.{class_of, is_working}
use Rattle.report.specs.Health.{Cube}
use Rattle.report.specs.declared.Report.{Report as Lent}

-- a report: its dimension, one status byte for each node, and one link word for each node
pub record Report : Type 0 where
  pub dim : ℕ
  pub status : List ℕ
  pub links : List ℕ

-- the report of a dimension, status bytes and link words
abbrev pub report : ℕ → List ℕ → List ℕ → Report
report n status links = record { dim = n; status = status; links = links }

-- the report that is lent to a job
abbrev pub reported : Lent → Report
reported r = report r.n r.status.now r.links.now

-- the board of node a is working; a node past the end of the list was never heard
unfoldable pub works : List ℕ → ℕ → Bool
unfolding class_of
works status a = is_working (class_of (get_or status a 0))

-- the words of the two ends of a link along dimension i, taken together: one end's word is enough
unfoldable pub joint : ℕ → ℕ → ℕ → Bool
unfolding bit
joint own other i = bit own i || bit other i

-- the link of a along dimension i counts as faulty: the word of either end marks it
unfoldable pub cut : List ℕ → ℕ → ℕ → Bool
unfolding joint flip
cut links a i = joint (get_or links a 0) (get_or links (flip a i) 0) i

-- a link is faulty seen from one end exactly when it is seen from the other
abbrev pub SeenFromBothEnds : Type 0
SeenFromBothEnds = (links : List ℕ) (a i : ℕ) → cut links (flip a i) i ≡ cut links a i

-- the cube that a report describes
unfoldable pub cube : Report → Cube
unfolding works cut
cube R = record { dim = R.dim; works = works R.status; cut = cut R.links }

-- n is from 1 to 10
unfoldable pub dimension : ℕ → Bool
dimension n = leb 1 n && leb n 10

-- a list has one entry for each node
unfoldable pub sized : ℕ → List ℕ → Bool
sized n xs = eqb (length xs) (2 ^ n)

-- the status bytes, the link words and the vectors lent with them have one entry for each node
unfoldable pub all_sized : Report → List ℕ → Bool
unfolding sized
all_sized R vectors = sized R.dim R.status && (sized R.dim R.links && sized R.dim vectors)

-- a number is that of a node, or a relative address
unfoldable pub within : ℕ → ℕ → Bool
within n a = ltb a (2 ^ n)

-- no link word has a bit at weight 2^n or above
unfoldable pub narrow : ℕ → List ℕ → Bool
narrow n [] = true
narrow n (w ∷ ws) = ltb w (2 ^ n) && narrow n ws
