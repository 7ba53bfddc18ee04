use Rattle.method_worker.proofs.StepsKeepBalance.{takes, learns}
use Rattle.method_worker.proofs.rule.pop_entry.Goals as goal

pub pop_as-requires-clause-rule : goal.pop_as-requires-clause-rule
pop_as-requires-clause-rule g c = (takes _ _ _ c.requires.parts, learns _ _ _)
