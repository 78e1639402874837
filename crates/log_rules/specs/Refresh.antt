-- Refresh: the status bytes of all nodes made from a log, and Update: the same over status bytes that earlier parts of the log gave.
use Rattle.std.specs.Prelude.{ℕ, zero, suc, ◌^◌, min, Bool, not, List, [], ◌∷◌, length, get_or}
use Rattle.cube.specs.Reply.{Reply, accepted, refusal, unless, kept}
use Rattle.cube.specs.Table.{table}
use Rattle.report.specs.Report.{dimension, sized, within}
use Rattle.log_rules.specs.Log.{records, node_in, well_formed, skipped, tells}

-- what is tested of each record, in file order
unfoldable pub tests : ℕ → List (List ℕ) → List (Bool × ℕ)
unfolding well_formed within
tests n [] = []
tests n (r ∷ rs) = (not (well_formed r), 11) ∷ (not (within n (node_in r)), 12) ∷ tests n rs

-- the refusals
unfoldable pub log_refusal : ℕ → List ℕ → List ℕ → ℕ
unfolding refusal dimension sized tests records
log_refusal n log status = refusal ((not (dimension n), 1) ∷ (not (sized n status), 2) ∷ tests n (records log))

-- what is answered: how many records from the future were skipped
unfoldable pub refreshed : ℕ → ℕ → List ℕ → List ℕ → Reply ℕ
unfolding log_refusal unless skipped records
refreshed n sweep log status = unless (log_refusal n log status) (accepted (skipped sweep (records log)))

-- the status bytes afterwards
unfoldable pub status_after : ℕ → ℕ → List ℕ → List ℕ → List ℕ
unfolding log_refusal kept table tells
status_after n sweep log status = kept (log_refusal n log status) (table (tells sweep log) (2 ^ n)) status

-- the younger of two status bytes, 0 being none
unfoldable pub younger : ℕ → ℕ → ℕ
younger zero c = c
younger (suc b) zero = suc b
younger (suc b) (suc c) = min (suc b) (suc c)

-- the status bytes after one more part of a log
unfoldable pub updated : ℕ → List ℕ → List ℕ → List ℕ
unfolding table younger tells
updated sweep part status = table (λ a. younger (get_or status a 0) (tells sweep part a)) (length status)

-- Update's status bytes afterwards; it refuses and answers as Refresh does
unfoldable pub update_after : ℕ → ℕ → List ℕ → List ℕ → List ℕ
unfolding log_refusal kept updated
update_after n sweep part status = kept (log_refusal n part status) (updated sweep part status) status
