-- The laws of a record's fields.
use mathlib.Core.Path.{◌≡◌}
use mathlib.Core.List.{List}
use Prim.Native.Nat.{ℕ, ◌+◌, ◌^◌, ◌≤◌}
use native.Mathlib.Omega.{arith}
use lib.ListN.{length, get_or, drop, length-drop, get_or-eq_default}
use lib.Pow.{pow_mono}
use lib.Seq.{length-take-le}
use Rattle.cube.proofs.Table.{length_table}
use Rattle.record.specs.Open.{word, n_in, status_in, link_in, links_in}

-- past the end a word reads as 0
pub word_past : (bytes : List ℕ) (i : ℕ) → length bytes ≤ i → word bytes i ≡ 0
unfolding word
word_past bytes i h = rw (get_or-eq_default bytes 0 h, get_or-eq_default bytes 0 (let l : length bytes ≤ i + 1 = omega arith in l))

-- and at the last byte as that byte
pub word_last : (bytes : List ℕ) (i : ℕ) → length bytes ≡ i + 1 → word bytes i ≡ get_or bytes i 0
unfolding word
word_last bytes i h = rw (get_or-eq_default bytes 0 (let l : length bytes ≤ i + 1 = omega arith in l)) (omega arith)

-- a cube has at most 1,024 nodes
pub nodes_le : (n : ℕ) → n ≤ 10 → 2 ^ n ≤ 1024
nodes_le n h = pow_mono {i = n} {j = 10} h

-- a record long enough has a status byte and a link word for each node
pub count_status : (bytes : List ℕ) → 5 + 2 ^ n_in bytes ≤ length bytes → length (status_in bytes) ≡ 2 ^ n_in bytes
unfolding status_in
count_status bytes h = length-take-le (2 ^ n_in bytes) (drop 5 bytes) (rw length-drop (omega arith))

-- its link words are one for each node
pub count_links : (bytes : List ℕ) → length (links_in bytes) ≡ 2 ^ n_in bytes
unfolding links_in
count_links bytes = length_table (link_in bytes) (2 ^ n_in bytes)
