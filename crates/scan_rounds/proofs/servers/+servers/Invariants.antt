use Rattle.std.proofs.Common.{length, ◌*◌, ◌+◌}
use Rattle.scan_rounds.proofs.servers.+servers.Given as goal

abbrev pub decreases-serve_all : goal.decreases-serve_all
decreases-serve_all g l = 2 * length l.handoffs.now

abbrev pub decreases-join+arg3 : goal.decreases-join+arg3
decreases-join+arg3 g l = 2 * length l.others.now + 1
