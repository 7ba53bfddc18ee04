use Rattle.aio_handle.proofs.FailedResultsHaveExecutions.{failed_results_few}
use Rattle.aio_handle.proofs.laws.failed_results_are_failed_executions.Goals as goal

pub returns : goal.returns
returns c = failed_results_few
