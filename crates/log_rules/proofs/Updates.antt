-- What a log tells of each node and how many records it skips: of the whole, in parts, and record by record.
use mathlib.Core.Path.{◌≡◌, refl, sym, ap, ◌∙◌}
use mathlib.Core.Bool.{true, cond}
use mathlib.Core.List.{List, [], ◌∷◌, ◌++◌}
use Prim.Native.Nat.{ℕ, ◌+◌, ◌*◌, ◌^◌, ◌<◌}
use native.Mathlib.Omega.{arith}
use lib.Dec.{leb}
use lib.ListN.{length, get_or, set, replicate, length-replicate, get_or-replicate}
use Rattle.cube.specs.Count.{one}
use Rattle.cube.specs.Table.{table}
use Rattle.cube.proofs.Reply.{kept_none}
use Rattle.cube.proofs.Table.{table_ext, length_table, get_or_table}
use Rattle.log_rules.specs.Log.{records, node_in, age, ages, age_byte, status_byte, skipped, ahead, tells}
use Rattle.log_rules.specs.Refresh.{log_refusal, status_after, younger, updated}
use Rattle.log_rules.specs.Sound.{sound}
use Rattle.log_rules.proofs.Records.{records_none, records_append}
use Rattle.log_rules.proofs.Refusals.{no_refusal, sound_of}
use Rattle.log_rules.proofs.Bytes.{bytes_none, bytes_cons, bytes_append, put_get_or, younger_assoc, younger_none, none_younger}

-- the records skipped
pub skipped_cons : (sweep : ℕ) (r : List ℕ) (rs : List (List ℕ)) → skipped sweep (r ∷ rs) ≡ one (ahead sweep r) + skipped sweep rs
unfolding skipped
skipped_cons sweep r rs = refl

pub skipped_append : (sweep : ℕ) (rs ss : List (List ℕ)) → skipped sweep (rs ++ ss) ≡ skipped sweep rs + skipped sweep ss
unfolding skipped
skipped_append sweep [] ss = omega arith
skipped_append sweep (r ∷ rs) ss = omega (arith, skipped_append sweep rs ss)

-- what a log in two parts tells of a node
pub tells_append : (sweep k : ℕ) (log more : List ℕ) (a : ℕ) → length log ≡ 8 * k → tells sweep (log ++ more) a ≡ younger (tells sweep log a) (tells sweep more a)
unfolding tells
tells_append sweep k log more a e = rw (records_append k log more e) (bytes_append sweep a (records log) (records more))

-- the bytes after a part of a log
updated_get_or : (sweep : ℕ) (part status : List ℕ) (a : ℕ) → a < length status → get_or (updated sweep part status) a 0 ≡ younger (get_or status a 0) (tells sweep part a)
unfolding updated
updated_get_or sweep part status a h = get_or_table _ (length status) a h

pub length_updated : (sweep : ℕ) (part status : List ℕ) → length (updated sweep part status) ≡ length status
unfolding updated
length_updated sweep part status = length_table _ (length status)

-- a list is what an update leaves if it is as long and has its bytes
pub updated_ext :
    (sweep : ℕ) (part status after : List ℕ) →
    length after ≡ length status →
    ((a : ℕ) → a < length status → get_or after a 0 ≡ younger (get_or status a 0) (tells sweep part a)) →
    after ≡ updated sweep part status
unfolding updated
updated_ext sweep part status after e h = table_ext _ (length status) after e h

-- two parts, one after the other
pub updated_append : (sweep k : ℕ) (log more status : List ℕ) → length log ≡ 8 * k → updated sweep (log ++ more) status ≡ updated sweep more (updated sweep log status)
updated_append sweep k log more status e =
    sym (updated_ext sweep (log ++ more) status (updated sweep more (updated sweep log status))
    (length_updated sweep more (updated sweep log status) ∙ length_updated sweep log status)
    (λ a h.
    updated_get_or sweep more (updated sweep log status) a (omega (arith, length_updated sweep log status))
    ∙ rw (updated_get_or sweep log status a h, tells_append sweep k log more a e) (younger_assoc _ _ _)))

-- the status bytes where nothing is refused
pub status_after_lem : (n sweep : ℕ) (log status : List ℕ) → log_refusal n log status ≡ 0 → status_after n sweep log status ≡ table (tells sweep log) (2 ^ n)
unfolding status_after
status_after_lem n sweep log status e = kept_none _ _ status e

-- are those that an update of zeros leaves
pub from_zeros : (n sweep : ℕ) (log status : List ℕ) → log_refusal n log status ≡ 0 → status_after n sweep log status ≡ updated sweep log (replicate (2 ^ n) 0)
from_zeros n sweep log status e =
    status_after_lem n sweep log status e
    ∙ updated_ext sweep log (replicate (2 ^ n) 0) (table (tells sweep log) (2 ^ n))
    (length_table (tells sweep log) (2 ^ n) ∙ sym (length-replicate (2 ^ n) 0))
    (λ a h.
    let l : a < 2 ^ n = omega (arith, length-replicate {A = ℕ} (2 ^ n) 0) in
    get_or_table (tells sweep log) (2 ^ n) a l ∙ rw (get_or-replicate {A = ℕ} (2 ^ n) a 0 0 l) (sym (none_younger _)))

-- The bytes where all records but the rest have spoken: with the rest they say what the whole log says.
abbrev pub Told : ℕ → List ℕ → List ℕ → List ℕ → List ℕ → Type 0
Told sweep log before rest status =
    (a : ℕ) → a < length before → younger (get_or status a 0) (tells sweep rest a) ≡ younger (get_or before a 0) (tells sweep log a)

-- the record that comes next, and its age
module _ (sweep : ℕ) (rest row more : List ℕ) (x : ℕ) (next : records rest ≡ row ∷ records more) (aged : x ≡ age sweep row) where
  skipped_row : one (leb 32768 x) ≡ one (ahead sweep row)
  unfolding ahead
  skipped_row = rw aged

  -- counted
  pub skipped_next : (count : ℕ) → count + one (leb 32768 x) + skipped sweep (records more) ≡ count + skipped sweep (records rest)
  skipped_next count = omega (arith, skipped_row, ap (skipped sweep) next ∙ skipped_cons sweep row (records more))

  tells_at : (a : ℕ) → tells sweep rest a ≡ younger (status_byte (ages sweep a (row ∷ []))) (tells sweep more a)
  unfolding tells
  tells_at a = ap (λ (rs : List (List ℕ)). status_byte (ages sweep a rs)) next ∙ bytes_cons sweep a row (records more)

  -- told
  pub tells_next :
      (log before status after : List ℕ) →
      length status ≡ length before →
      Told sweep log before rest status →
      after ≡ set status (node_in row) (younger (get_or status (node_in row) 0) (cond (leb 32768 x) 0 (age_byte x))) →
      Told sweep log before more after
  tells_next log before status after long told put =
      λ a h.
      rw (put, aged, put_get_or sweep row status a (omega arith))
      (younger_assoc _ _ _ ∙ ap (younger (get_or status a 0)) (sym (tells_at a)) ∙ told a h)

-- the end of a log
pub skipped_end : (sweep : ℕ) (rest : List ℕ) → length rest ≡ 0 → skipped sweep (records rest) ≡ 0
unfolding skipped
skipped_end sweep rest h = rw (records_none rest h)

tells_none : (sweep : ℕ) (rest : List ℕ) (a : ℕ) → length rest ≡ 0 → tells sweep rest a ≡ 0
unfolding tells
tells_none sweep rest a h = rw (records_none rest h) (bytes_none sweep a)

pub tells_end :
    (sweep : ℕ) (log before rest status : List ℕ) →
    length rest ≡ 0 →
    length status ≡ length before →
    Told sweep log before rest status →
    status ≡ updated sweep log before
tells_end sweep log before rest status h long told =
    updated_ext sweep log before status long (λ a l. sym (rw (tells_none sweep rest a h) (younger_none _)) ∙ told a l)

-- where nothing is refused, the records are sound
pub sound_none : (n : ℕ) (log status : List ℕ) → 0 ≡ log_refusal n log status → sound (length status) (records log) ≡ true
sound_none n log status none =
    let p = no_refusal n log status (sym none) in
    rw p.0 (sound_of n (records log) p.1)

-- and Refresh, which makes every byte 0 first, leaves what the log tells
pub refresh_done :
    (n sweep : ℕ) (log status : List ℕ) →
    0 ≡ log_refusal n log status →
    updated sweep log (replicate (length status) 0) ≡ status_after n sweep log status
refresh_done n sweep log status none = rw (no_refusal n log status (sym none)).0 (sym (from_zeros n sweep log status (sym none)))
