-- A node with no usable record has byte 0, whose class isn't working.
use mathlib.Core.Path.{◌≡◌, ◌∙◌}
use mathlib.Core.Bool.{false}
use mathlib.Core.List.{List, []}
use mathlib.Core.Logic.{⊎_elim}
use Prim.Native.Nat.{ℕ, ◌^◌, ◌<◌, ◌≤◌}
use native.Mathlib.Omega.{arith}
use lib.ListN.{get_or}
use Rattle.cube.specs.Table.{table}
use Rattle.std.proofs.lemmas.Bool.{cases_lt}
use Rattle.cube.proofs.Table.{get_or_table, length_table}
use Rattle.report.specs.Report.{works}
use Rattle.report.specs.Class.{class_of}
use Rattle.report.proofs.Laws.{works_past}
use Rattle.log_rules.specs.Log.{records, ages, status_byte, tells}
use Rattle.log_rules.specs.Claims.{UnheardIsLost}
use Rattle.log_rules.proofs.Updates.{status_after_lem}
use Rattle.log_rules.proofs.a_board_unheard_is_a_board_lost.Goals as goal

byte_zero : (status : List ℕ) (a : ℕ) → get_or status a 0 ≡ 0 → works status a ≡ false
unfolding works class_of
byte_zero status a e = rw e

unheard : (sweep : ℕ) (log : List ℕ) (a : ℕ) → ages sweep a (records log) ≡ [] → tells sweep log a ≡ 0
unfolding tells status_byte
unheard sweep log a none = rw none

lost : (n sweep : ℕ) (log : List ℕ) (a : ℕ) → ages sweep a (records log) ≡ [] → works (table (tells sweep log) (2 ^ n)) a ≡ false
lost n sweep log a none =
    ⊎_elim
    (λ (h : a < 2 ^ n). byte_zero _ a (get_or_table (tells sweep log) (2 ^ n) a h ∙ unheard sweep log a none))
    (λ (h : 2 ^ n ≤ a). works_past _ a (omega (arith, length_table (tells sweep log) (2 ^ n))))
    (cases_lt a (2 ^ n))

pub returns : goal.returns
unfolding UnheardIsLost
returns c = λ n sweep log status a e none. rw (status_after_lem n sweep log status e) (lost n sweep log a none)
