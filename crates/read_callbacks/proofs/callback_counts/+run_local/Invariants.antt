use Rattle.std.proofs.Common.{length}
use Rattle.read_callbacks.proofs.callback_counts.+run_local.Given as goal

abbrev pub decreases-run_local : goal.decreases-run_local
decreases-run_local l = length l.ids.now
