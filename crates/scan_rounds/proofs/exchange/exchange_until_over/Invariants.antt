use Rattle.std.proofs.Common.{◌≡◌, ◌≤◌, List, length}
use Rattle.scan_rounds.specs.Exchanges.{AreClientsOf, ClientsHold, SharesAdvanced}
use Rattle.scan_rounds.specs.declared.share.Share.{Share}
use Rattle.scan_rounds.proofs.exchange.exchange_until_over.Given as goal

abbrev pub invariant-loop-places : goal.invariant-loop-places
invariant-loop-places g l = record {
  clients : AreClientsOf l.handoffs l.clients;
  places : (l.places ≡ length l.progress.spare.items) × (1 ≤ l.many) × (l.many ≤ l.places);
  exchanged : (ss : List (Share g.row.W.Denot g.row.D.Denot)) → ClientsHold l.fn.clients ss
      → (rs : List (Share g.row.W.Denot g.row.D.Denot)) × ClientsHold l.clients rs
      × SharesAdvanced g.D.Disk g.W.World l.shared.table l.shared.queue g.A.JobSource ss rs
      l.fn.progress l.progress;
}

abbrev pub decreases-loop-places : goal.decreases-loop-places
decreases-loop-places g l = g.A.JobSource.blocks_left l.progress.job_source
