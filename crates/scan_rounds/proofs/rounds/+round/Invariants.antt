use Rattle.std.proofs.Common.{◌+◌, ◌*◌, length}
use Rattle.scan_rounds.proofs.rounds.+round.Given as goal

abbrev pub decreases-list_round : goal.decreases-list_round
decreases-list_round g l = 3 * length l.jobs.now

abbrev pub decreases-list_beside : goal.decreases-list_beside
decreases-list_beside g l = 3 * length l.later.now + 2

abbrev pub decreases-list_beside-beside : goal.decreases-list_beside-beside
decreases-list_beside-beside g l = 3 * length l.later.now + 1
