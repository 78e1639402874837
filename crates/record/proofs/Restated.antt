-- The laws of a restated record: which bytes it keeps, and what its fields are.
use mathlib.Core.Path.{◌≡◌, refl, sym, ap, ◌∙◌}
use mathlib.Core.List.{List, ◌++◌, append_assoc}
use Prim.Native.Nat.{ℕ, ◌+◌, ◌-◌, ◌*◌, ◌^◌, ◌≤◌, ◌<◌}
use native.Mathlib.Omega.{arith}
use borrow.Author.Tests.{le-leb, lt-leb}
use lib.ListN.{length, get_or, take, drop}
use borrow.Rule.Slice.PartMut.{put_mid}
use lib.Seq.{paste, drop-drop, length-paste, take-length, take_at, drop_at, get_or-take, get_or-drop, length-take-le, drop-paste}
use Rattle.cube.specs.Table.{table}
use Rattle.cube.proofs.Table.{table_ext, length_table, get_or_table}
use Rattle.cube.specs.Reply.{refusal}
use Rattle.record.specs.Open.{word, n_in, status_in, link_in, links_in, open_refusal}
use Rattle.record.specs.Restate.{restated}

-- without the room nothing is put
pub restated_not : (bytes status : List ℕ) → length bytes < 5 + length status → restated bytes status ≡ bytes
unfolding restated
restated_not bytes status h = rw (lt-leb (5 + length status) (length bytes) h)

-- else it is a copy over the bytes from the sixth on
pub restated_paste : (bytes status : List ℕ) → 5 + length status ≤ length bytes → restated bytes status ≡ paste bytes 5 status (length status)
unfolding restated
restated_paste bytes status h = rw (le-leb (5 + length status) (length bytes) h, take-length status)

module _ (bytes given : List ℕ) (room : 5 + length given ≤ length bytes) where
  length_restated : length (restated bytes given) ≡ length bytes
  length_restated = ap length (restated_paste bytes given room) ∙ length-paste bytes 5 given (length given) room (omega arith)

  -- what follows its first five bytes
  from_sixth : take 5 bytes ++ given ++ drop (5 + length given) bytes ≡ take 5 bytes ++ (given ++ drop (5 + length given) bytes)
  from_sixth = append_assoc (take 5 bytes) given (drop (5 + length given) bytes)

  restated_split : restated bytes given ≡ take 5 bytes ++ (given ++ drop (5 + length given) bytes)
  unfolding restated
  restated_split = rw (le-leb (5 + length given) (length bytes) room) from_sixth

  -- which is what a write to them leaves
  pub restated_put : put_mid 5 (5 + length given - 5) bytes given ≡ restated bytes given
  restated_put =
      let e : 5 + length given - 5 ≡ length given = omega arith in
      rw (e, drop-drop (length given) 5 bytes) (sym restated_split)

  five : length (take 5 bytes) ≡ 5
  five = length-take-le 5 bytes (omega arith)

  -- the first five bytes are kept
  kept_low : (i : ℕ) → i < 5 → get_or (restated bytes given) i 0 ≡ get_or bytes i 0
  kept_low i h =
      sym (get_or-take 5 (restated bytes given) i 0 h)
      ∙ ap (λ (xs : List ℕ). get_or (take 5 xs) i 0) restated_split
      ∙ ap (λ (xs : List ℕ). get_or xs i 0) (take_at (take 5 bytes) (given ++ drop (5 + length given) bytes) 5 five)
      ∙ get_or-take 5 bytes i 0 h

  -- and those after the status bytes
  kept_high : (i : ℕ) → get_or (restated bytes given) (5 + length given + i) 0 ≡ get_or bytes (5 + length given + i) 0
  kept_high i =
      sym (get_or-drop (5 + length given) (restated bytes given) i 0)
      ∙ ap (λ (xs : List ℕ). get_or (drop (5 + length given) xs) i 0) (restated_paste bytes given room)
      ∙ ap (λ (xs : List ℕ). get_or xs i 0) (drop-paste bytes 5 given (length given) (omega arith) (omega arith))
      ∙ get_or-drop (5 + length given) bytes i 0

  word_low : (i : ℕ) → i + 1 < 5 → word (restated bytes given) i ≡ word bytes i
  unfolding word
  word_low i h = rw (kept_low i (omega arith), kept_low (i + 1) h)

  word_high : (i : ℕ) → word (restated bytes given) (5 + length given + i) ≡ word bytes (5 + length given + i)
  unfolding word
  word_high i =
      let e : 5 + length given + i + 1 ≡ 5 + length given + (i + 1) = omega arith in
      rw (kept_high i, e, kept_high (i + 1))

  -- the status bytes are those given
  status_given : take (length given) (drop 5 (restated bytes given)) ≡ given
  status_given =
      rw (restated_split, drop_at (take 5 bytes) (given ++ drop (5 + length given) bytes) 5 five)
      (take_at given (drop (5 + length given) bytes) (length given) refl)

  module _ (sized : length given ≡ 2 ^ n_in bytes) where
    link_kept : (a : ℕ) → link_in (restated bytes given) a ≡ link_in bytes a
    unfolding link_in
    link_kept a = rw (kept_low 4 (omega arith), ← sized) (word_high (2 * a))

    pub links_kept : links_in (restated bytes given) ≡ links_in bytes
    unfolding links_in
    links_kept =
        rw (kept_low 4 (omega arith))
        (table_ext (link_in bytes) (2 ^ n_in bytes) (table (link_in (restated bytes given)) (2 ^ n_in bytes))
        (length_table (link_in (restated bytes given)) (2 ^ n_in bytes))
        (λ a h. get_or_table (link_in (restated bytes given)) (2 ^ n_in bytes) a h ∙ link_kept a))

    pub n_kept : n_in (restated bytes given) ≡ n_in bytes
    n_kept = kept_low 4 (omega arith)

    pub status_read : status_in (restated bytes given) ≡ given
    unfolding status_in
    status_read = rw (n_kept, ← sized) status_given

    -- so Open refuses it as it refuses the record
    pub refusal_kept : (status links : List ℕ) → open_refusal (restated bytes given) status links ≡ open_refusal bytes status links
    unfolding open_refusal refusal
    refusal_kept status links = rw (links_kept, length_restated, word_low 0 (omega arith), word_low 2 (omega arith), n_kept)
