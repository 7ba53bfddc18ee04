use Rattle.std.proofs.Common.{◌≡◌, length, vec_capacity}
use Rattle.std.specs.List.{All}
use Rattle.handoff.specs.HandoffViews.{HandoffView}
use Rattle.scan_rounds.specs.Exchanges.{AreClientsOf}
use Rattle.scan_rounds.specs.RunLeads.{AreIdle}
use Rattle.scan_rounds.specs.declared.share.RunTerms.{RunTerms}
use Rattle.scan_rounds.proofs.run_memory.RunMemory.open.Given as goal

abbrev pub invariant-loop : goal.invariant-loop
invariant-loop g l = record {
  so_far : length l.handoffs.items ≡ l.counter;
  capacity : vec_capacity l.handoffs ≡ l.count;
  clients_so_far : length l.clients.items ≡ l.counter;
  clients_capacity : vec_capacity l.clients ≡ l.count;
  keys_are : All (λ (h : HandoffView (RunTerms g.row.W.Denot)). h.key ≡ l.terms)
      l.handoffs.items;
  clients_are : AreClientsOf l.handoffs.items l.clients.items;
  idle : AreIdle l.clients.items;
}
