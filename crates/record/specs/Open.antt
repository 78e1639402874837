-- Open: reads a report record. All numbers are little-endian.
use Rattle.std.specs.Prelude.{ℕ, ◌+◌, ◌-◌, ◌*◌, ◌^◌, not, ◌&&◌, List, [], ◌∷◌, ◌++◌, eqb, ltb, leb, length, get_or, take, drop, Result}
use Rattle.cube.specs.Reply.{Reply, accepted, refusal, unless, kept}
use Rattle.cube.specs.Refusals.{saying}
use Rattle.cube.specs.declared.refusal.Refusal.{Refusal}
use Rattle.cube.specs.Table.{table}
use Rattle.report.specs.Report.{dimension, narrow}

-- the two bytes at i as a number
unfoldable pub word : List ℕ → ℕ → ℕ
word bytes i = get_or bytes i 0 + 256 * get_or bytes (i + 1) 0

-- the fields of a record: length, kind, n, 2^n status bytes, 2^n link words
abbrev pub length_in : List ℕ → ℕ
length_in bytes = word bytes 0

abbrev pub kind_in : List ℕ → ℕ
kind_in bytes = word bytes 2

abbrev pub n_in : List ℕ → ℕ
n_in bytes = get_or bytes 4 0

unfoldable pub status_in : List ℕ → List ℕ
status_in bytes = take (2 ^ n_in bytes) (drop 5 bytes)

unfoldable pub link_in : List ℕ → ℕ → ℕ
unfolding word
link_in bytes a = word bytes (5 + 2 ^ n_in bytes + 2 * a)

unfoldable pub links_in : List ℕ → List ℕ
unfolding link_in table
links_in bytes = table (link_in bytes) (2 ^ n_in bytes)

-- the refusals, in Open's own order
unfoldable pub open_refusal : List ℕ → List ℕ → List ℕ → ℕ
unfolding refusal word dimension narrow links_in
open_refusal bytes status links =
    refusal
    ((ltb (length bytes) 5, 10)
    ∷ (not (eqb (length_in bytes) (length bytes - 2)), 10)
    ∷ (not (eqb (kind_in bytes) 1), 10)
    ∷ (not (dimension (n_in bytes)), 1)
    ∷ (not (eqb (length_in bytes) (3 + 3 * 2 ^ n_in bytes)), 10)
    ∷ (not (leb (2 ^ n_in bytes) (length status) && leb (2 ^ n_in bytes) (length links)), 2)
    ∷ (not (narrow (n_in bytes) (links_in bytes)), 3)
    ∷ [])

-- what it answers: n
unfoldable pub opened : List ℕ → List ℕ → List ℕ → Reply ℕ
unfolding open_refusal unless
opened bytes status links = unless (open_refusal bytes status links) (accepted (n_in bytes))

-- the lent slices afterwards: what was read in their first places, later places unchanged
unfoldable pub status_opened : List ℕ → List ℕ → List ℕ → List ℕ
unfolding open_refusal kept status_in
status_opened bytes status links = kept (open_refusal bytes status links) (status_in bytes ++ drop (2 ^ n_in bytes) status) status

unfoldable pub links_opened : List ℕ → List ℕ → List ℕ → List ℕ
unfolding open_refusal kept links_in
links_opened bytes status links = kept (open_refusal bytes status links) (links_in bytes ++ drop (2 ^ n_in bytes) links) links

-- what the answer says
abbrev pub said : Result ℕ Refusal → Reply ℕ
said = saying (λ n. n)
