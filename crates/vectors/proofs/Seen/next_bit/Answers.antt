-- `vectors::Seen::next_bit` meets its contract: its tests are those of the recurrence.
use mathlib.Core.Path.{ap, sym, ◌∙◌}
use mathlib.Core.Bool.{Bool, ◌&&◌}
use Prim.Native.Nat.{suc}
use Rattle.cube.specs.Count.{one}
use Rattle.safety.specs.Safety.{supported}
use Rattle.vectors.specs.Rounds.{shown, known}
use Rattle.vectors.specs.Seen.{seen}
use Rattle.vectors.proofs.Rounds.{bit_by_sum}
use Rattle.vectors.proofs.Seen.next_bit.Goals as goal

pub returns-then-not-works : goal.returns-then-not-works
unfolding known
returns-then-not-works c =
    let s = c.args.self.now in
    ap (λ (t : Bool). one (t && supported (seen s) (shown s.bytes.now) (suc c.args.k) c.args.a)) (sym c.if-not-works.true ∙ c.works.ensures)

pub returns : goal.returns
unfolding known
returns c =
    let s = c.args.self.now in
    c.from.ensures
    ∙ bit_by_sum (seen s) (shown s.bytes.now) c.args.k c.args.a _ c.heard_by.ensures
    ∙ ap (λ (t : Bool). one (t && supported (seen s) (shown s.bytes.now) (suc c.args.k) c.args.a)) (sym c.if-not-works.false ∙ c.works.ensures)
