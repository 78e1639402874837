-- `status_log::check_all` meets its contract: each whole record's tests in turn, and at the end 11 for what is no whole record.
use mathlib.Core.Path.{◌≡◌, ap, sym, ◌∙◌}
use mathlib.Core.Logic.{⊎_elim}
use mathlib.Core.List.{List, [], ◌∷◌}
use Prim.Native.Nat.{ℕ, ◌<◌, ◌%◌}
use native.Mathlib.Omega.{arith}
use borrow.Author.Tests.{eq-eqb, ne_eqb}
use lib.ListN.{length, take, length-take, length-append}
use Rattle.std.proofs.Common.{rules}
use Rattle.std.proofs.lemmas.Bool.{cases_eq}
use Rattle.std.specs.Slice.Iter.{chunks_exact_rest}
use Rattle.cube.specs.Reply.{refusal}
use Rattle.cube.proofs.Refusals.{number_some, of_test}
use Rattle.log_rules.specs.Log.{records, well_formed}
use Rattle.log_rules.specs.Refresh.{tests}
use Rattle.log_rules.proofs.Records.{records_cons, records_whole}
use Rattle.log_rules.proofs.Refusals.{malformed, refuse_record, refuse_next, pass_next, pass_end}
use Rattle.status_log.proofs.check_all.Goals as goal

-- a record cut short at the end
cut_short : (n : ℕ) (rest : List ℕ) → 0 < length rest → length rest < 8 → refusal (tests n (records rest)) ≡ 11
unfolding well_formed
cut_short n rest some short =
    ap (λ (rs : List (List ℕ)). refusal (tests n rs)) (records_cons rest some)
    ∙ refuse_record n _ _ (λ z. absurd (omega (arith, eleven)))
    ∙ eleven
  where
    eleven : refusal (tests n (take 8 rest ∷ [])) ≡ 11
    eleven = malformed n (take 8 rest) (rw (ne_eqb (length (take 8 rest)) 8 (λ e. omega (arith, e, length-take 8 rest))))

pub loop-row-preserved : goal.loop-row-preserved
loop-row-preserved c =
    let kept = c.loop-row.invariant in
    let step = c.in-Some.ensures.steps in
    let next = records_whole _ _ _ step.1.0 (step.1.1 ∙ kept.0) in (
      step.0 ∙ kept.0,
      omega (arith, kept.0, kept.1, step.1.1, ap length step.1.0 ∙ length-append c.in-Some.row.now _),
      pass_next c.args.n _ _ _ next c.in_ok-check.ensures ∙ kept.2,
    )

pub returns-in_err-check : goal.returns-in_err-check
returns-in_err-check c =
    let kept = c.loop-row.invariant in
    let step = c.in-Some.ensures.steps in
    let next = records_whole _ _ _ step.1.0 (step.1.1 ∙ kept.0) in
    search (rules, refuse_next c.args.n _ _ _ next _ c.in_err-check.ensures (number_some _), kept.2)

pub returns : goal.returns
returns c =
    let kept = c.loop-row.invariant in
    let rest = chunks_exact_rest c.loop-row.row-iterator in
    let short : length rest < 8 = omega (arith, c.in-None.ensures.steps.1.0, kept.0) in
    rw (c.unless.ensures, of_test) (⊎_elim
    (λ (e : length rest ≡ 0). rw (eq-eqb (length c.args.log.now % 8) 0 (omega (arith, e, kept.1))) (sym (sym kept.2 ∙ pass_end c.args.n rest e)))
    (λ (e : length rest ≡ 0 → ⊥). rw (ne_eqb (length c.args.log.now % 8) 0 (λ z. e (omega (arith, z, kept.1, short)))) (sym (sym kept.2 ∙ cut_short c.args.n rest (omega (arith, e)) short)))
    (cases_eq (length rest) 0))
