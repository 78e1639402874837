-- The laws of a pick.
use mathlib.Core.Path.{◌≡◌, refl, ap, sym, ◌∙◌}
use mathlib.Core.Bool.{true}
use Prim.Native.Nat.{ℕ, zero, suc, min, ◌^◌, ◌≤◌, ◌<◌}
use mathlib.Core.Logic.{⊎_elim}
use native.Mathlib.Nat.{mod-lt}
use native.Mathlib.Omega.{arith}
use Rattle.std.specs.Prelude.{Some, None}
use Rattle.cube.specs.Bits.{bit}
use Rattle.cube.specs.Count.{ranked}
use Rattle.cube.proofs.Bits.{bit_high}
use Rattle.std.proofs.lemmas.Bool.{cases_lt}
use Rattle.std.proofs.lemmas.Option.{none-some}
use Rattle.cube.proofs.Count.{ranked_le, ranked_in, weight_below, weight_pos}
use Rattle.pick.specs.Pick.{named, taken}

-- a pick takes no dimension above n
pub taken_le : (n mask pick : ℕ) → taken n mask pick ≤ n
unfolding taken
taken_le n mask pick = ranked_le (bit mask) _ n

-- of some offered up to n it takes one
pub taken_in : (n mask pick : ℕ) → 0 < mask → mask < 2 ^ n → bit mask (taken n mask pick) ≡ true
unfolding taken
taken_in n mask pick some small =
    ranked_in (bit mask) _ n (rw (sym (weight_below n mask small)) (mod-lt pick (weight_pos n mask small some)))

-- a mask of 16 bits has no dimension of any rank above 16
past : (mask r n : ℕ) → mask < 2 ^ 16 → 16 ≤ n → ranked (bit mask) r n ≡ ranked (bit mask) r 16
unfolding ranked
past mask r zero h l = absurd (omega arith)
past mask r (suc n) h l =
    ⊎_elim (λ (m : n < 16). ap (ranked (bit mask) r) (let e : suc n ≡ 16 = omega arith in e))
    (λ (m : 16 ≤ n). rw (bit_high mask 16 (suc n) h (omega arith)) (past mask r n h m)) (cases_lt n 16)

pub ranked_top : (mask r n : ℕ) → mask < 2 ^ 16 → ranked (bit mask) r (min n 16) ≡ ranked (bit mask) r n
ranked_top mask r n h = ⊎_elim low high (cases_lt n 16)
  where
    low : n < 16 → ranked (bit mask) r (min n 16) ≡ ranked (bit mask) r n
    low l = ap (ranked (bit mask) r) (let e : min n 16 ≡ n = omega arith in e)

    high : 16 ≤ n → ranked (bit mask) r (min n 16) ≡ ranked (bit mask) r n
    high l = ap (ranked (bit mask) r) (let e : min n 16 ≡ 16 = omega arith in e) ∙ sym (past mask r n h l)

-- what a number names, and that 0 alone names nothing
pub named_some : (t i : ℕ) → Some i ≡ named t → i ≡ t
named_some zero i e = absurd (none-some i (sym e))
named_some (suc t) i e = cc

pub named_none : (t : ℕ) → None ≡ named t → t ≡ 0
named_none zero e = refl
named_none (suc t) e = absurd (none-some (suc t) e)
