use Rattle.std.proofs.Common.{length}
use Rattle.scan_rounds.proofs.lead.+going_out.Given as goal

abbrev pub decreases-give_out_backends : goal.decreases-give_out_backends
decreases-give_out_backends g l = length l.clients.now
