use Rattle.std.proofs.Common.{length}
use Rattle.scan_rounds.proofs.lead.+coming_home.Given as goal

abbrev pub decreases-gather_backends : goal.decreases-gather_backends
decreases-gather_backends g l = length l.clients.now
