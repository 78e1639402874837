-- `held::mask_of` meets its contract: each turn packs the dimension that it asks for.
use Rattle.std.proofs.Common.{◌≡◌, suc, ◌-◌, ap, ◌∙◌, arith}
use Rattle.cube.specs.Count.{one}
use Rattle.cube.proofs.Count.{packed_more, packed_all}
use Rattle.held.proofs.Held.{byte_one, byte_small}
use Rattle.held.proofs.mask_of.Goals as goal

pub loop-i-preserved : goal.loop-i-preserved
loop-i-preserved g c =
    let l = c.loop-i in
    let more : c.args.n - (l.i - 1) ≡ suc (c.args.n - l.i) = omega arith in (
      rw more (omega (arith, l.invariant.0, byte_small c.test.result)),
      λ p h. packed_more p c.args.n l.i l.mask _ c.loop-i-test.true (l.invariant.1 p h) (byte_one c.test.result ∙ ap one (h (l.i - 1) c.test.result (omega arith) c.test.ensures)),
    )

pub returns : goal.returns
returns g c =
    λ p h.
    let none : c.loop-i.i ≡ 0 = omega arith in
    packed_all p c.args.n c.loop-i.mask (rw none at (c.loop-i.invariant.1 p h))
