-- `vectors::fill` meets its contract: a refusal changes nothing, and else the rounds write every vector.
use mathlib.Core.Path.{sym, ◌∙◌}
use Rattle.std.proofs.Common.{rules}
use Rattle.cube.proofs.Reply.{unless_none, kept_none}
use Rattle.cube.proofs.Refusals.{unless_refusal, kept_refusal}
use Rattle.report.specs.Report.{reported, cube}
use Rattle.vectors.specs.Fill.{fill, filled}
use Rattle.vectors.proofs.Rounds.{after_all}
use Rattle.vectors.proofs.Accepted.{accepted_size}
use Rattle.vectors.proofs.fill.Goals as goal

pub returns-in_err-tested-clause-answer : goal.returns-in_err-tested-clause-answer
unfolding fill
returns-in_err-tested-clause-answer c = search (rules, unless_refusal)

pub returns-in_err-tested-clause-words : goal.returns-in_err-tested-clause-words
unfolding filled
returns-in_err-tested-clause-words c = search (rules, kept_refusal)

pub write_vectors-requires : goal.write_vectors-requires
write_vectors-requires c = accepted_size (reported c.args.report.now) c.args.vectors.now (sym c.in_ok-tested.ensures)

pub returns-clause-answer : goal.returns-clause-answer
unfolding fill
returns-clause-answer c = sym (unless_none _ _ (sym c.in_ok-tested.ensures))

pub returns-clause-words : goal.returns-clause-words
unfolding filled cube
returns-clause-words c = c.write_vectors.ensures ∙ after_all (cube (reported c.args.report.now)) ∙ sym (kept_none _ _ _ (sym c.in_ok-tested.ensures))
