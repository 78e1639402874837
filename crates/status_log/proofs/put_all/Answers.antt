-- `status_log::put_all` meets its contract: each record in turn, and at the end all have spoken.
use mathlib.Core.Path.{◌≡◌, ap, ◌∙◌}
use mathlib.Core.Bool.{Bool, true, false}
use Prim.Native.Nat.{ℕ, ◌≤◌}
use native.Mathlib.Omega.{arith}
use lib.ListN.{length, length-append, length-set}
use Rattle.std.specs.Int.{from_bool}
use Rattle.cube.specs.Count.{one}
use Rattle.log_rules.proofs.Records.{records_whole}
use Rattle.log_rules.proofs.Refusals.{sound_next, sound_end}
use Rattle.log_rules.proofs.Updates.{skipped_next, skipped_end, tells_next, tells_end}
use Rattle.status_log.proofs.put_all.Goals as goal

-- a record counts at most once
counts : (b : Bool) (k : ℕ) → k ≡ from_bool b → (k ≡ one b) × (k ≤ 1)
counts true k e = (e, omega arith)
counts false k e = (e, omega arith)

pub put-requires : goal.put-requires
put-requires c =
    let kept = c.loop-row.invariant in
    let step = c.in-Some.ensures.steps in
    let next = records_whole _ _ _ step.1.0 (step.1.1 ∙ kept.0) in
    omega (arith, (sound_next _ _ _ _ next kept.2).0, kept.4)

pub loop-row-preserved : goal.loop-row-preserved
loop-row-preserved c =
    let a = c.args in
    let kept = c.loop-row.invariant in
    let step = c.in-Some.ensures.steps in
    let next = records_whole _ _ _ step.1.0 (step.1.1 ∙ kept.0) in
    let aged = c.age-age.ensures in
    let k = counts _ _ c.from-count.ensures in (
      step.0 ∙ kept.0,
      omega (arith, k.1, kept.0, kept.1, step.1.1, ap length step.1.0 ∙ length-append c.in-Some.row.now _),
      (sound_next _ _ _ _ next kept.2).1,
      omega (arith, k.0 ∙ ap one c.is_future.ensures, skipped_next a.sweep _ _ _ _ next aged c.loop-row.count, kept.3),
      ap length c.put.ensures ∙ simp length-set kept.4,
      tells_next a.sweep _ _ _ _ next aged a.log.now a.status.now _ _ kept.4 kept.5 c.put.ensures,
    )

pub returns-clause-count : goal.returns-clause-count
returns-clause-count c =
    let kept = c.loop-row.invariant in
    let end = sound_end _ _ (omega (arith, c.in-None.ensures.steps.1.0, kept.0)) kept.2 in
    omega (arith, kept.3, skipped_end c.args.sweep _ end)

pub returns-clause-boards : goal.returns-clause-boards
returns-clause-boards c =
    let kept = c.loop-row.invariant in
    let end = sound_end _ _ (omega (arith, c.in-None.ensures.steps.1.0, kept.0)) kept.2 in
    tells_end c.args.sweep c.args.log.now _ _ _ end kept.4 kept.5
