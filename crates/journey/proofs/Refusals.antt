-- What is known where nothing refuses a journey before filling; and the list of what does ends at 6.
use mathlib.Core.Path.{◌≡◌, ap, sym, ◌∙◌}
use mathlib.Core.Bool.{Bool, true, not, ◌&&◌, cond, and-eq-true_iff}
use mathlib.Core.List.{List}
use Prim.Native.Nat.{ℕ, ◌+◌, ◌^◌, ◌≤◌}
use native.Mathlib.Omega.{arith}
use borrow.Author.Tests.{not-false, eq-eqb, leb-true}
use lib.Dec.{leb}
use lib.ListN.{length}
use Rattle.cube.proofs.Reply.{passed, later, refusal_le}
use Rattle.cube.proofs.Table.{length_table}
use Rattle.report.specs.Report.{Report, cube, dimension, sized, all_sized, narrow}
use Rattle.report.proofs.Laws.{dimension_range}
use Rattle.safety.specs.Safety.{vector, vectors, vectors_of}
use Rattle.rules.specs.Refusals.{decide_refusal}
use Rattle.rules.proofs.Refusals.{decide_clear, decide_none, decide_refusal_le}
use Rattle.vectors.specs.Fill.{fill_refusal}
use Rattle.journey.specs.Journey.{journey_refusal}

pub record Clear (R : Report) (vecs picks path : List ℕ) (s d : ℕ) : Type 0 where
  pub dim : R.dim ≤ 10
  pub chosen : R.dim + 1 ≤ length picks
  pub room : R.dim + 2 ≤ length path
  pub fills : fill_refusal R vecs ≡ 0
  pub decides : decide_refusal R (vectors_of R) s d ≡ 0

-- Fill's vectors have the size that the lent ones have
filled_sized : (R : Report) (vecs : List ℕ) → all_sized R vecs ≡ true → all_sized R (vectors_of R) ≡ true
unfolding all_sized sized cube vectors
filled_sized R vecs e =
    let two = (and-eq-true_iff (sized R.dim R.status) (sized R.dim R.links && sized R.dim vecs)).0 e in
    rw (two.0, ((and-eq-true_iff (sized R.dim R.links) (sized R.dim vecs)).0 two.1).0, eq-eqb _ _ (length_table (vector (cube R)) (2 ^ R.dim)))

module _ (R : Report) (vecs picks path : List ℕ) (s d : ℕ) where
  -- whether there are picks and path words enough
  abbrev pub room_for : Bool
  room_for = leb (R.dim + 1) (length picks) && leb (R.dim + 2) (length path)

  -- three tests, and then Decide's
  abbrev pub chain : ℕ
  chain = cond (not (dimension R.dim)) 1 (cond (not (all_sized R vecs && room_for)) 2 (cond (not (narrow R.dim R.links)) 3 (decide_refusal R vecs s d)))

  -- are Journey's list: where the first two pass, so do Decide's
  pub as_decide : chain ≡ journey_refusal R vecs picks path s d
  unfolding journey_refusal decide_refusal
  as_decide =
      later (dimension R.dim) 1 _ _
      (λ t1. later (all_sized R vecs && room_for) 2 _ _ (λ t2. ap (cond (not (narrow R.dim R.links)) 3) (rw (t1, ((and-eq-true_iff (all_sized R vecs) room_for).0 t2).0))))

  -- so what is the number of these tests is that of Journey's list
  pub by_chain : (number : ℕ) → number ≡ chain → number ≡ journey_refusal R vecs picks path s d
  by_chain number e = e ∙ as_decide

  pub clear_of_none : journey_refusal R vecs picks path s d ≡ 0 → Clear R vecs picks path s d
  unfolding fill_refusal
  clear_of_none e =
      let t1 = passed (not (dimension R.dim)) 0 _ (as_decide ∙ e) in
      let t2 = passed (not (all_sized R vecs && room_for)) 1 _ t1.1 in
      let t3 = passed (not (narrow R.dim R.links)) 2 _ t2.1 in
      let two = (and-eq-true_iff (all_sized R vecs) room_for).0 (not-false _ t2.0) in
      let both = (and-eq-true_iff (leb (R.dim + 1) (length picks)) (leb (R.dim + 2) (length path))).0 two.1 in
      let k = decide_clear R vecs s d t3.1 in
      record {
        dim = (dimension_range R.dim k.dim).1;
        chosen = leb-true _ _ both.0;
        room = leb-true _ _ both.1;
        fills = rw (k.dim, two.0, not-false (narrow R.dim R.links) t3.0);
        decides =
            decide_none R (vectors_of R) s d
            (record { dim = k.dim; sizes = filled_sized R vecs k.sizes; node = k.node; other = k.other; here = k.here; there = k.there });
      }

  -- the list ends at 6
  pub refusals_to_6 : journey_refusal R vecs picks path s d ≤ 6
  refusals_to_6 =
      rw (sym as_decide)
      (refusal_le (not (dimension R.dim)) 1 _ 6 (omega arith)
      (refusal_le (not (all_sized R vecs && room_for)) 2 _ 6 (omega arith)
      (refusal_le (not (narrow R.dim R.links)) 3 _ 6 (omega arith) (decide_refusal_le R vecs s d))))
