-- For Fill's private functions: what it keeps between its rounds, which are the vectors so far, the last bit of every board, and the faulty links of every board.
use Rattle.std.specs.Prelude.{◌≡◌, ℕ, ◌≤◌, ◌^◌, Bool, List, eqb, length, get_or}
use Rattle.cube.specs.Bits.{bit}
use Rattle.cube.specs.Count.{one, pack}
use Rattle.cube.specs.Table.{table}
use Rattle.report.specs.Health.{Cube}
use Rattle.report.specs.Report.{Report, works, cut}
use Rattle.safety.specs.Safety.{bits_of}
use Rattle.held.specs.Held.{own}

-- a report of at most 1,024 boards has one link word for each node, and a list one entry
abbrev pub Fits : Report → List ℕ → Type 0
Fits R xs = (R.dim ≤ 10) × (length R.links ≡ 2 ^ R.dim) × (length xs ≡ 2 ^ R.dim)

-- bits 1 to k of node a
unfoldable pub up_to : Cube → ℕ → ℕ → ℕ
unfolding pack bits_of
up_to C k a = pack (bits_of C a) k

-- bits 1 to k of all nodes
unfoldable pub after : Cube → ℕ → List ℕ
unfolding up_to table
after C k = table (up_to C k) (2 ^ C.dim)

-- own bit k of node a, as 1 or 0
unfoldable pub digit : List ℕ → ℕ → ℕ → ℕ
unfolding own
digit vectors k a = one (own vectors k a)

-- the bit that the byte of node a shows
unfoldable pub shown : List ℕ → ℕ → Bool
shown bytes a = eqb (get_or bytes a 0) 1

-- every byte is 1 or 0
abbrev pub Digits : List ℕ → Type 0
Digits bytes = (a : ℕ) → get_or bytes a 0 ≤ 1

-- the faulty links of node a, as a mask
unfoldable pub faults : ℕ → List ℕ → ℕ → ℕ
unfolding cut pack
faults n links a = pack (cut links a) n

-- those of all nodes
unfoldable pub all_faults : ℕ → List ℕ → List ℕ
unfolding faults table
all_faults n links = table (faults n links) (2 ^ n)

-- the links that a mask has, at whatever node
unfoldable pub masked : ℕ → ℕ → ℕ → Bool
unfolding bit
masked mask a i = bit mask i

-- the cube of a report, but with the faulty links that a table of masks has
unfoldable pub known : Report → List ℕ → Cube
unfolding works masked
known R masks = record { dim = R.dim; works = works R.status; cut = λ a. masked (get_or masks a 0) a }
