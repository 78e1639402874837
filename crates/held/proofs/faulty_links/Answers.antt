-- `held::faulty_links` meets its contract.
use mathlib.Core.Path.{sym, ◌∙◌}
use Rattle.held.specs.Held.{fits}
use Rattle.std.proofs.Common.{rules}
use Rattle.report.specs.Report.{cut}
use Rattle.held.proofs.Held.{fits_at, reach}
use Rattle.held.proofs.faulty_links.Goals as goal

pub returns-then-not-fits : goal.returns-then-not-fits
unfolding fits
returns-then-not-fits c = rw (sym c.fits.ensures ∙ c.if-not-fits.true)

pub mask_of-requires : goal.mask_of-requires
mask_of-requires c =
    let k = fits_at _ _ _ _ c.fits.ensures c.if-not-fits.false in record {
      small = k.0;
      callable = λ i l. let r = reach c.args.report.now.n c.args.report.now.links.now c.args.a.0 i k l in search (rules, r);
    }

pub returns : goal.returns
unfolding fits
returns c = rw (sym c.fits.ensures ∙ c.if-not-fits.false) (c.mask_of.ensures (cut c.args.report.now.links.now c.args.a.0) (λ i holds l is. search (rules, is)))
