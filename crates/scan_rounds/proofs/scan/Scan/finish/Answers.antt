use Rattle.std.proofs.Common.{map, Some, sym, ap, subst}
use Rattle.std.specs.List.{All}
use Rattle.aio_handle.specs.EndStates.{NoneHasOwnerTokens, AreTotals}
use Rattle.aio_handle.specs.ContractViews.{IsActorOf, actor_known}
use Rattle.scan_rounds.specs.Scans.{actor_of, disk_of}
use Rattle.scan_rounds.proofs.totals.TotalsMatchDisks.{push_all_parts, backends_held, workers_held}
use Rattle.scan_rounds.proofs.totals.TotalsMatchDisks.{of_table, are_quiet, finished}
use Rattle.scan_rounds.proofs.scan.Scan.finish.Goals as goal

pub push_all_parts-requires-clause-disk_actors : goal.push_all_parts-requires-clause-disk_actors
push_all_parts-requires-clause-disk_actors g c κs within = backends_held _ _ _ c.requires.scan

pub push_all_parts-requires-2-clause-disk_actors : goal.push_all_parts-requires-2-clause-disk_actors
push_all_parts-requires-2-clause-disk_actors g c κs within = workers_held _ _ _ c.requires.scan

pub close-requires-clause-table : goal.close-requires-clause-table
close-requires-clause-table g c κs within =
    let all = push_all_parts actor_of c.args.self _ _ _ c.requires.scan.no_actors
    c.push_all_parts.ensures.actors c.push_all_parts-2.ensures.actors in
    subst (λ actors. All (IsActorOf c.args.self.shared.table) actors) (sym all)
    (of_table _ _ _ c.requires.scan)

pub close-requires-clause-no_owner_tokens : goal.close-requires-clause-no_owner_tokens
close-requires-clause-no_owner_tokens g c κs within =
    let all = push_all_parts actor_of c.args.self _ _ _ c.requires.scan.no_actors
    c.push_all_parts.ensures.actors c.push_all_parts-2.ensures.actors in
    subst (λ actors. NoneHasOwnerTokens (map actor_known actors)) (sym all)
    (are_quiet _ _ _ c.requires.scan)

pub returns-clause-disks : goal.returns-clause-disks
returns-clause-disks g c =
    push_all_parts disk_of c.args.self _ _ _ (ap (λ ds. map Some ds) c.requires.scan.no_disks)
    c.push_all_parts.ensures.disks c.push_all_parts-2.ensures.disks

pub returns-clause-finished : goal.returns-clause-finished
returns-clause-finished g c =
    let all = push_all_parts actor_of c.args.self _ _ _ c.requires.scan.no_actors
    c.push_all_parts.ensures.actors c.push_all_parts-2.ensures.actors in
    finished _ _ c.args.self c.requires.scan c.close.result
    (subst
    (λ actors. AreTotals c.args.self.shared.table.config (map actor_known actors) c.close.result)
    all c.close.ensures)
    c.push_all_parts-2.new.disks.items (returns-clause-disks g c)
