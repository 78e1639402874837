-- The laws of a log's records: one after another, and of a log in two parts.
use mathlib.Core.Path.{◌≡◌, refl, sym, ap, ◌∙◌}
use mathlib.Core.List.{List, [], ◌∷◌, ◌++◌}
use Prim.Native.Nat.{ℕ, zero, suc, ◌+◌, ◌-◌, ◌/◌, ◌*◌, ◌<◌, min}
use native.Mathlib.Omega.{arith}
use lib.ListN.{length, take, drop, length-append, length-drop, drop_of_length-le}
use lib.Seq.{take_at, drop_at, take-append-le, drop-append-le}
use Rattle.std.proofs.lemmas.List.{take_min}
use Rattle.log_rules.specs.Log.{eights, records}

-- an empty log has none
pub records_none : (log : List ℕ) → length log ≡ 0 → records log ≡ []
unfolding records eights
records_none [] e = refl
records_none (x ∷ xs) e = absurd (omega arith)

-- any other begins with one
pub records_cons : (log : List ℕ) → 0 < length log → records log ≡ take 8 log ∷ records (drop 8 log)
unfolding records eights
records_cons log h =
    let e : (length log + 7) / 8 ≡ suc ((length log - 8 + 7) / 8) = omega arith in
    rw (e, length-drop)

-- a record that comes off the front, cut short only where nothing follows
pub records_next :
    (rest row more : List ℕ) →
    rest ≡ row ++ more →
    length row ≡ min 8 (length rest) →
    0 < length rest →
    records rest ≡ row ∷ records more
records_next rest row more e size some = records_cons rest some ∙ rw (first, later more e)
  where
    first : take 8 rest ≡ row
    first = sym (take_min 8 rest) ∙ rw (← size, e) (take_at row more (length row) refl)

    later : (ys : List ℕ) → rest ≡ row ++ ys → drop 8 rest ≡ ys
    later [] r = drop_of_length-le rest {i = 8} (omega (arith, ap length r, length-append row []))
    later (y ∷ ys) r = rw r (drop_at row (y ∷ ys) 8 (omega (arith, ap length r, length-append row (y ∷ ys))))

-- a whole record that comes off the front
pub records_whole : (rest row more : List ℕ) → rest ≡ row ++ more → length row ≡ 8 → records rest ≡ row ∷ records more
records_whole rest row more e size =
    let long : length rest ≡ length row + length more = ap length e ∙ length-append row more in
    records_next rest row more e (omega arith) (omega arith)

-- a log of whole records and a further part
pub records_append : (k : ℕ) (log more : List ℕ) → length log ≡ 8 * k → records (log ++ more) ≡ records log ++ records more
records_append zero [] more e = rw (records_none [] refl)
records_append zero (x ∷ xs) more e = absurd (omega arith)
records_append (suc k) log more e =
    records_cons (log ++ more) (rw length-append (omega arith))
    ∙ rw (
      take-append-le 8 log more (omega arith),
      drop-append-le 8 log more (omega arith),
      records_append k (drop 8 log) more (rw length-drop (omega arith)),
      records_cons log (omega arith),
    )
