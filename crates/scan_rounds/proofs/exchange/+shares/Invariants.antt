use Rattle.std.proofs.Common.{length}
use Rattle.scan_rounds.proofs.exchange.+shares.Given as goal

abbrev pub decreases-exchange_all : goal.decreases-exchange_all
decreases-exchange_all g l = length l.clients.now
