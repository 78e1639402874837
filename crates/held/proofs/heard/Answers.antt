-- `held::heard` meets its contract.
use mathlib.Core.Path.{◌≡◌, ap, sym, ◌∙◌}
use mathlib.Core.Bool.{◌&&◌, and-eq-true_iff}
use Prim.Native.Nat.{ℕ, ◌^◌}
use borrow.Author.Tests.{eqb-true, leb-true}
use lib.Dec.{eqb, leb}
use lib.ListN.{length}
use Rattle.held.specs.Held.{own, fits, heard}
use Rattle.std.proofs.Common.{rules}
use Rattle.report.specs.Report.{cut}
use Rattle.safety.specs.Safety.{registered}
use Rattle.held.proofs.Held.{fits_at, reach}
use Rattle.held.proofs.heard.Goals as goal
use Rattle.held.proofs.heard.Goals.{Else-not-fits}

-- past the first test the sizes are known, so the second test is the definition's
room : (c : Else-not-fits)
    → (eqb (length c.args.vectors.now) (2 ^ c.args.report.now.n) && leb c.args.k 16)
    ≡ (eqb (length c.args.vectors.now) (length c.args.report.now.links.now) && leb c.args.k 16)
room c = ap (λ (m : ℕ). eqb (length c.args.vectors.now) m && leb c.args.k 16) (sym (fits_at _ _ _ _ c.fits.ensures c.if-not-fits.false).2)

pub returns-then-not-fits : goal.returns-then-not-fits
unfolding heard fits
returns-then-not-fits c = rw (sym c.fits.ensures ∙ c.if-not-fits.true)

pub returns-then-not-vectors-links : goal.returns-then-not-vectors-links
unfolding heard fits
returns-then-not-vectors-links c =
    rw (sym c.fits.ensures ∙ c.if-not-fits.false, room (goal.at.returns-then-not-vectors-links c).Else-not-fits ∙ c.if-not-vectors-links.true)

pub mask_of-requires : goal.mask_of-requires
mask_of-requires c =
    let k = fits_at _ _ _ _ c.fits.ensures c.if-not-fits.false in
    let q = (and-eq-true_iff _ _).0 c.if-not-vectors-links.false in record {
      small = k.0;
      callable = λ i l.
          let r = reach c.args.report.now.n c.args.report.now.links.now c.args.a.0 i k l in
          let v = reach c.args.report.now.n c.args.vectors.now c.args.a.0 i (k.0, k.1, eqb-true _ _ q.0 ∙ k.2) l in
          let b = leb-true _ _ q.1 in
          search (rules, r, v, b);
    }

pub returns : goal.returns
unfolding heard fits
returns c =
    rw (sym c.fits.ensures ∙ c.if-not-fits.false, room (goal.at.returns c).Else-not-fits ∙ c.if-not-vectors-links.false)
    (c.mask_of.ensures (registered (cut c.args.report.now.links.now) (own c.args.vectors.now c.args.k) c.args.a.0) (λ i holds l is. search (rules, is)))
