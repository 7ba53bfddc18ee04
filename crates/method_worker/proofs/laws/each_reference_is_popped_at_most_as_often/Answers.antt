use Rattle.aio_word.specs.declared.WaitRef.{WaitRef}
use Rattle.aio_word.specs.Stands.{one_if}
use Rattle.method_worker.specs.QueueRule.{is_ref}
use Rattle.method_worker.proofs.laws.each_reference_is_popped_at_most_as_often.Goals as goal

pub returns : goal.returns
returns c = λ handles items views b t. b.weights (λ (r : WaitRef). one_if (is_ref t r))
