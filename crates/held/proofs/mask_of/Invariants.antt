-- `held::mask_of`: the loop keeps that the dimensions above i are packed.
use Rattle.std.proofs.Common.{◌≡◌, ℕ, suc, ◌^◌, ◌<◌, ◌-◌, Bool}
use Rattle.cube.proofs.Count.{PackedTo}
use Rattle.held.proofs.mask_of.Given as goal

abbrev pub invariant-loop-i : goal.invariant-loop-i
invariant-loop-i g l =
    (l.mask < 2 ^ (l.n - l.i))
    × ((p : ℕ → Bool) → ((i : ℕ) (holds : Bool) → i < l.n → goal.F-post g l.test i holds → holds ≡ p (suc i)) → PackedTo p l.n l.i l.mask)
