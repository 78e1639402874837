-- The same records in another order: the same count, the same bytes, and nothing refused either.
use mathlib.Core.Path.{◌≡◌, refl, sym, ◌∙◌}
use mathlib.Core.List.{List, [], ◌∷◌}
use mathlib.Core.Logic.{⊎_elim}
use Prim.Native.Nat.{ℕ, ◌^◌}
use native.Mathlib.Omega.{arith}
use Rattle.cube.specs.Reply.{refusal, unless}
use Rattle.cube.specs.Table.{table}
use Rattle.cube.proofs.Table.{table_ext, length_table, get_or_table}
use Rattle.std.proofs.lemmas.Bool.{cases_eq}
use Rattle.log_rules.specs.Log.{records, ages, status_byte, skipped, tells}
use Rattle.log_rules.specs.Refresh.{tests, log_refusal, refreshed, status_after}
use Rattle.log_rules.specs.Claims.{Reordered, same, swap, keep, then}
use Rattle.log_rules.proofs.Bytes.{bytes_cons, younger_swap}
use Rattle.log_rules.proofs.Refusals.{refuse_record, pass_record, no_refusal, refusal_by_tests}
use Rattle.log_rules.proofs.Updates.{skipped_cons, status_after_lem}

-- the same records in another order
module _ (sweep : ℕ) where
  skipped_order : {rs ss : List (List ℕ)} → Reordered rs ss → skipped sweep ss ≡ skipped sweep rs
  skipped_order same = refl
  skipped_order (swap {r} {s} {rs}) =
      rw (skipped_cons sweep s (r ∷ rs), skipped_cons sweep r rs, skipped_cons sweep r (s ∷ rs), skipped_cons sweep s rs) (omega arith)
  skipped_order (keep {r} {rs} {ss} p) = rw (skipped_cons sweep r ss, skipped_cons sweep r rs, skipped_order p)
  skipped_order (then p q) = skipped_order q ∙ skipped_order p

  bytes_order : (a : ℕ) {rs ss : List (List ℕ)} → Reordered rs ss → status_byte (ages sweep a ss) ≡ status_byte (ages sweep a rs)
  bytes_order a same = refl
  bytes_order a (swap {r} {s} {rs}) =
      rw (bytes_cons sweep a s (r ∷ rs), bytes_cons sweep a r rs, bytes_cons sweep a r (s ∷ rs), bytes_cons sweep a s rs) (younger_swap _ _ _)
  bytes_order a (keep {r} {rs} {ss} p) = rw (bytes_cons sweep a r ss, bytes_cons sweep a r rs, bytes_order a p)
  bytes_order a (then p q) = bytes_order a q ∙ bytes_order a p

module _ (n : ℕ) where
  -- a list of records that isn't refused: the first isn't, and the others aren't
  apart : (r : List ℕ) (rs : List (List ℕ)) → refusal (tests n (r ∷ rs)) ≡ 0 → (refusal (tests n (r ∷ [])) ≡ 0) × (refusal (tests n rs) ≡ 0)
  apart r rs none =
      ⊎_elim
      (λ (e : refusal (tests n (r ∷ [])) ≡ 0). (e, sym (pass_record n r rs e) ∙ none))
      (λ (some : refusal (tests n (r ∷ [])) ≡ 0 → ⊥). absurd (some (sym (refuse_record n r rs some) ∙ none)))
      (cases_eq (refusal (tests n (r ∷ []))) 0)

  together : (r : List ℕ) (rs : List (List ℕ)) → refusal (tests n (r ∷ [])) ≡ 0 → refusal (tests n rs) ≡ 0 → refusal (tests n (r ∷ rs)) ≡ 0
  together r rs e es = pass_record n r rs e ∙ es

  tests_order : {rs ss : List (List ℕ)} → Reordered rs ss → refusal (tests n rs) ≡ 0 → refusal (tests n ss) ≡ 0
  tests_order same none = none
  tests_order (swap {r} {s} {rs}) none =
      let p = apart r (s ∷ rs) none in
      let q = apart s rs p.1 in
      together s (r ∷ rs) q.0 (together r rs p.0 q.1)
  tests_order (keep {r} {rs} {ss} p) none = let q = apart r rs none in together r ss q.0 (tests_order p q.1)
  tests_order (then p q) none = tests_order q (tests_order p none)

-- what a log of the same records tells of a node
pub tells_order : (sweep : ℕ) (log other : List ℕ) (a : ℕ) → Reordered (records log) (records other) → tells sweep other a ≡ tells sweep log a
unfolding tells
tells_order sweep log other a p = bytes_order sweep a p

-- the same records in another order are not refused either
module _ (n sweep : ℕ) (log other status : List ℕ) (none : log_refusal n log status ≡ 0) (p : Reordered (records log) (records other)) where
  none_either : log_refusal n other status ≡ 0
  none_either =
      let passed = (no_refusal n log status none).1 in
      refusal_by_tests n other log status (tests_order n p passed ∙ sym passed) ∙ none

  pub same_answer : refreshed n sweep other status ≡ refreshed n sweep log status
  unfolding refreshed unless
  same_answer = rw (none_either, none, skipped_order sweep p)

  pub same_status : status_after n sweep other status ≡ status_after n sweep log status
  same_status =
      status_after_lem n sweep other status none_either
      ∙ sym (table_ext (tells sweep other) (2 ^ n) (table (tells sweep log) (2 ^ n)) (length_table (tells sweep log) (2 ^ n))
      (λ a h. get_or_table (tells sweep log) (2 ^ n) a h ∙ sym (tells_order sweep log other a p)))
      ∙ sym (status_after_lem n sweep log status none)
