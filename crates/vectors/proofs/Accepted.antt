-- What is known of a report that Fill accepts.
use mathlib.Core.Path.{◌≡◌}
use mathlib.Core.Bool.{◌&&◌, and-eq-true_iff}
use mathlib.Core.List.{List}
use Prim.Native.Nat.{ℕ}
use borrow.Author.Tests.{not-false, eqb-true}
use Rattle.cube.proofs.Reply.{passed}
use Rattle.report.specs.Report.{Report, sized, all_sized}
use Rattle.report.proofs.Laws.{dimension_range}
use Rattle.vectors.specs.Fill.{fill_refusal}
use Rattle.vectors.specs.Rounds.{Fits}

pub accepted_size : (R : Report) (out : List ℕ) → fill_refusal R out ≡ 0 → Fits R out
unfolding fill_refusal all_sized
accepted_size R out e =
    let t1 = passed _ _ _ e in
    let t2 = passed _ _ _ t1.1 in
    let sizes = (and-eq-true_iff (sized R.dim R.status) (sized R.dim R.links && sized R.dim out)).0 (not-false _ t2.0) in
    let lent = (and-eq-true_iff (sized R.dim R.links) (sized R.dim out)).0 sizes.1 in
    ((dimension_range R.dim (not-false _ t1.0)).1, eqb-true _ _ lent.0, eqb-true _ _ lent.1)
