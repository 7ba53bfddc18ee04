use Rattle.aio_word.proofs.ReachableIsLawful.{reachable-is-lawful}
use Rattle.aio_word.proofs.laws.every_reached_machine_stands.Goals as goal

pub returns : goal.returns
returns c = λ config m small reached. reachable-is-lawful config small m reached
