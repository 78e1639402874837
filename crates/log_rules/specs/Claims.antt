-- What is claimed of Refresh besides its contract.
use Rattle.std.specs.Prelude.{ℕ, ◌+◌, ◌%◌, ◌^◌, ◌≡◌, false, cond, List, [], ◌∷◌, ◌++◌, eqb, length, replicate}
use Rattle.report.specs.Report.{works}
use Rattle.log_rules.specs.Log.{records, ages, skipped}
use Rattle.log_rules.specs.Refresh.{log_refusal, refreshed, status_after, updated}

-- the same records in another order
pub data Reordered : List (List ℕ) → List (List ℕ) → Type 0 where
  same : {rs : List (List ℕ)} → Reordered rs rs
  swap : {r s : List ℕ} {rs : List (List ℕ)} → Reordered (r ∷ s ∷ rs) (s ∷ r ∷ rs)
  keep : {r : List ℕ} {rs ss : List (List ℕ)} → Reordered rs ss → Reordered (r ∷ rs) (r ∷ ss)
  then : {rs ss ts : List (List ℕ)} → Reordered rs ss → Reordered ss ts → Reordered rs ts

-- For a file that isn't refused, the same records in another order give the same answer and the same status bytes.
unfoldable pub AnyOrder : Type 0
AnyOrder =
    (n sweep : ℕ) (log other status : List ℕ) →
    log_refusal n log status ≡ 0 →
    Reordered (records log) (records other) →
    (refreshed n sweep other status ≡ refreshed n sweep log status) × (status_after n sweep other status ≡ status_after n sweep log status)

-- A board unheard is a board lost: one with no usable record is not working.
unfoldable pub UnheardIsLost : Type 0
UnheardIsLost =
    (n sweep : ℕ) (log status : List ℕ) (a : ℕ) →
    log_refusal n log status ≡ 0 →
    ages sweep a (records log) ≡ [] →
    works (status_after n sweep log status) a ≡ false

-- A log may be read in parts of whole records: the first refusal, the records skipped and the status bytes come out as from the whole.
unfoldable pub InParts : Type 0
InParts =
    (n sweep : ℕ) (log more status : List ℕ) →
    length log % 8 ≡ 0 →
    (log_refusal n (log ++ more) status ≡ cond (eqb (log_refusal n log status) 0) (log_refusal n more status) (log_refusal n log status))
    × ((skipped sweep (records (log ++ more)) ≡ skipped sweep (records log) + skipped sweep (records more))
    × (updated sweep (log ++ more) status ≡ updated sweep more (updated sweep log status)))

-- Refresh is Update of bytes that are all 0.
unfoldable pub FromSilence : Type 0
FromSilence =
    (n sweep : ℕ) (log status : List ℕ) →
    log_refusal n log status ≡ 0 →
    status_after n sweep log status ≡ updated sweep log (replicate (2 ^ n) 0)
