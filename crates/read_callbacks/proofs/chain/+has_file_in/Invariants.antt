use Rattle.std.proofs.Common.{length}
use Rattle.read_callbacks.proofs.chain.+has_file_in.Given as goal

abbrev pub decreases-has_file_in : goal.decreases-has_file_in
decreases-has_file_in l = length l.ids.now
