use Rattle.aio_word.proofs.StepKeepsMachine.{step-keeps-machine}
use Rattle.aio_word.proofs.laws.step_keeps_stands.Goals as goal

pub returns : goal.returns
returns c = λ config before after e s step. step-keeps-machine config before e after s step
