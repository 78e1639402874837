-- The status log: records of four little-endian 16-bit numbers, length (always 6), kind 2, a sweep, a node.
use Rattle.std.specs.Prelude.{ℕ, zero, suc, ◌+◌, ◌-◌, ◌/◌, ◌%◌, min, Bool, not, ◌&&◌, cond, List, [], ◌∷◌, eqb, leb, length, take, drop}
use Rattle.cube.specs.Count.{one}
use Rattle.record.specs.Open.{word}

-- the first k records, eight bytes each
unfoldable pub eights : ℕ → List ℕ → List (List ℕ)
eights zero bytes = []
eights (suc k) bytes = take 8 bytes ∷ eights k (drop 8 bytes)

-- the records of a file in file order; the last may be cut short
unfoldable pub records : List ℕ → List (List ℕ)
unfolding eights
records log = eights ((length log + 7) / 8) log

-- a record's node
abbrev pub node_in : List ℕ → ℕ
node_in r = word r 6

-- a record is whole, its length is 6 and its kind 2
unfoldable pub well_formed : List ℕ → Bool
unfolding word
well_formed r = eqb (length r) 8 && (eqb (word r 0) 6 && eqb (word r 2) 2)

-- a record's age: the present sweep less its own, wrapping
unfoldable pub age : ℕ → List ℕ → ℕ
unfolding word
age sweep r = (sweep + 65536 - word r 4) % 65536

-- an age of 32,768 or more is from the future
unfoldable pub ahead : ℕ → List ℕ → Bool
unfolding age
ahead sweep r = leb 32768 (age sweep r)

-- how many records are from the future
unfoldable pub skipped : ℕ → List (List ℕ) → ℕ
unfolding ahead
skipped sweep [] = 0
skipped sweep (r ∷ rs) = one (ahead sweep r) + skipped sweep rs

-- a record that speaks for node a: its own, and not from the future
unfoldable pub usable : ℕ → ℕ → List ℕ → Bool
unfolding ahead word
usable sweep a r = eqb (node_in r) a && not (ahead sweep r)

-- the ages of a node's usable records, in file order
unfoldable pub ages : ℕ → ℕ → List (List ℕ) → List ℕ
unfolding usable age
ages sweep a [] = []
ages sweep a (r ∷ rs) = cond (usable sweep a r) (age sweep r ∷ ages sweep a rs) (ages sweep a rs)

-- the byte of an age: up to 252 the age and one, 253 for older ones
unfoldable pub age_byte : ℕ → ℕ
age_byte x = cond (leb x 252) (x + 1) 253

-- the least of some ages
unfoldable pub least : ℕ → List ℕ → ℕ
least x [] = x
least x (y ∷ ys) = min x (least y ys)

-- the status byte by the ages of the usable records: the youngest wins, and none is byte 0
unfoldable pub status_byte : List ℕ → ℕ
unfolding age_byte least
status_byte [] = 0
status_byte (x ∷ xs) = age_byte (least x xs)

-- what a log tells of node a
unfoldable pub tells : ℕ → List ℕ → ℕ → ℕ
unfolding records ages status_byte
tells sweep log a = status_byte (ages sweep a (records log))
