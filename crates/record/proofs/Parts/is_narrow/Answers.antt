-- `record::Parts::is_narrow` meets its contract.
use mathlib.Core.Path.{◌≡◌}
use Rattle.std.specs.List.{fold}
use Rattle.std.proofs.Common.{rules}
use Rattle.std.proofs.lemmas.Iterator.{YieldsList-from_slice}
use Rattle.std.proofs.lemmas.Iterator.Consumers.{fold_from_yields_List}
use Rattle.record.specs.Open.{word}
use Rattle.record.proofs.Words.{marking, narrow_mask}
use Rattle.record.proofs.Parts.is_narrow.Goals as goal

pub returns : goal.returns
unfolding word
returns c =
    let parts = c.args.self.now in
    let mask : c.fold-marked.result ≡ fold marking 0 parts.links.now =
    fold_from_yields_List _ marking 0 _ c.fold-marked.ensures.ran (YieldsList-from_slice parts.links.now cc) (λ m x b q k. search rules) in
    narrow_mask parts.n parts.links.now c.from.result _ (search (rules, mask)) parts.status_sized
