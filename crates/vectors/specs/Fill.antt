-- Fill: all 2^n vectors into a lent slice.
use Rattle.std.specs.Prelude.{ℕ, not, List, [], ◌∷◌, Result}
use Rattle.cube.specs.Reply.{Reply, accepted, refusal, unless, kept}
use Rattle.cube.specs.Refusals.{saying}
use Rattle.cube.specs.declared.refusal.Refusal.{Refusal}
use Rattle.report.specs.Report.{Report, cube, dimension, all_sized, narrow}
use Rattle.safety.specs.Safety.{vectors, vectors_of}

-- the refusals, lowest first
unfoldable pub fill_refusal : Report → List ℕ → ℕ
unfolding refusal dimension all_sized narrow
fill_refusal R out =
    refusal
    ((not (dimension R.dim), 1)
    ∷ (not (all_sized R out), 2)
    ∷ (not (narrow R.dim R.links), 3)
    ∷ [])

-- what it answers
unfoldable pub fill : Report → List ℕ → Reply (Unit {0})
unfolding fill_refusal unless
fill R out = unless (fill_refusal R out) (accepted tt)

-- the lent slice afterwards: all the vectors, or after a refusal what it was
unfoldable pub filled : Report → List ℕ → List ℕ
unfolding fill_refusal kept cube vectors
filled R out = kept (fill_refusal R out) (vectors_of R) out

-- what the answer says
abbrev pub said : Result (Unit {0}) Refusal → Reply (Unit {0})
said = saying (λ _. tt)
