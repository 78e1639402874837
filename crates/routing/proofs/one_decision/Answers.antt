-- `said` tells the decisions apart.
use Rattle.cube.proofs.Refusals.{one_answer_by}
use Rattle.routing.specs.Decide.{chosen}
use Rattle.routing.proofs.Choices.{kind_of, kind_back}
use Rattle.routing.proofs.one_decision.Goals as goal

pub returns : goal.returns
returns c = one_answer_by chosen kind_of kind_back
