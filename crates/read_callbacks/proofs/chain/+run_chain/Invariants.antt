use Rattle.std.proofs.Common.{length}
use Rattle.read_callbacks.proofs.chain.+run_chain.Given as goal

abbrev pub decreases-run_chain : goal.decreases-run_chain
decreases-run_chain l = length l.ids.now
