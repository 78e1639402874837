-- Restate: a record with other status bytes.
use Rattle.std.specs.Prelude.{ℕ, ◌+◌, ◌^◌, ◌≡◌, cond, List, ◌++◌, leb, length, take, drop}
use Rattle.record.specs.Open.{n_in, status_in, links_in, open_refusal}

-- the bytes with these in place of those from the sixth on, if they have the room
unfoldable pub restated : List ℕ → List ℕ → List ℕ
restated bytes status = cond (leb (5 + length status) (length bytes)) (take 5 bytes ++ status ++ drop (5 + length status) bytes) bytes

-- A record that Open reads, restated with a status byte for each node, is one that Open reads: n and the link words are as they were, the status
-- bytes are those given.
unfoldable pub ReadsBack : Type 0
ReadsBack =
    (bytes given status links : List ℕ) →
    open_refusal bytes status links ≡ 0 →
    length given ≡ 2 ^ n_in bytes →
    (open_refusal (restated bytes given) status links ≡ 0)
    × ((n_in (restated bytes given) ≡ n_in bytes) × ((status_in (restated bytes given) ≡ given) × (links_in (restated bytes given) ≡ links_in bytes)))
