-- `vectors::gather` meets its contract: where every word is 0, so is every mask.
use mathlib.Core.Path.{sym, ap, ◌∙◌}
use native.Mathlib.Omega.{arith}
use Rattle.cube.specs.Table.{table}
use Rattle.cube.proofs.Table.{written_none, written_next, written_all}
use Rattle.held.proofs.Held.{fits_of}
use Rattle.vectors.specs.Rounds.{faults, all_faults}
use Rattle.vectors.proofs.Rounds.{faults_none}
use Rattle.vectors.proofs.gather.Goals as goal

pub returns-then-narrow : goal.returns-then-narrow
returns-then-narrow c =
    c.requires.1 ∙ faults_none _ _ (sym c.narrow.ensures ∙ c.if-narrow.true)

pub loop-a-init : goal.loop-a-init
loop-a-init c = written_none _ _

pub loop-a-preserved : goal.loop-a-preserved
unfolding faults
loop-a-preserved c =
    let r = c.args.report.now in
    let l = c.loop-a in
    let fit = c.requires.0 in
    written_next (faults r.n r.links.now) c.args.masks.now l.masks l.a _ (omega arith) l.invariant
    (rw (fits_of r.n r.links.now l.a fit.0 fit.1 (omega arith)) at c.faulty_links.ensures)

pub returns : goal.returns
unfolding all_faults
returns c =
    let r = c.args.report.now in
    let l = c.loop-a in
    written_all (faults r.n r.links.now) c.args.masks.now l.masks l.a (omega arith) l.invariant ∙ ap (table (faults r.n r.links.now)) c.requires.0.2
