use Rattle.std.proofs.Common.{length}
use Rattle.handoff_tests.proofs.doubling.+double.Given as goal

abbrev pub decreases-double : goal.decreases-double
decreases-double l = length l.numbers.now
