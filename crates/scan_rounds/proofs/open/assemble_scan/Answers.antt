use Rattle.std.proofs.Common.{◌-◌, ◌^◌, List, length, refl, sym, subst, ap, ◌∙◌, arith}
use Rattle.std.specs.List.{All}
use Rattle.std.specs.Vec.Iter.{into_iter_items}
use Rattle.page_check.specs.declared.rules.PageRules.{PageRules}
use Rattle.aio_handle.specs.ContractViews.{AreNewActors, ActorView}
use Rattle.method_worker.specs.QueueViews.{IsSeatOf, SeatView}
use Rattle.scan_settings.specs.ListOptions.{list_options}
use Rattle.scan_rounds.specs.Rings.{IsRingOf}
use Rattle.scan_rounds.specs.OpenedScan.{IsDeskFor}
use Rattle.scan_settings.specs.Settings.{needs_of_method}
use Rattle.scan_rounds.specs.declared.scan.Scan.{Scan}
use Rattle.scan_rounds.proofs.assembly.AssembledScan.{opened_scan}
use Rattle.scan_rounds.proofs.assembly.PartsGiven.{left_by_workers}
use Rattle.scan_rounds.proofs.assembly.SeatsAndRings.{enough_seats}
use Rattle.scan_rounds.proofs.open.assemble_scan.Goals as goal

pub workers-workers-requires-clause-actors : goal.workers-workers-requires-clause-actors
workers-workers-requires-clause-actors g c κs within =
    let left = (left_by_workers _ _ _ c.backends-backends.ensures.made.left_are.others).0 in
    let all = ap length c.into_iter.ensures.rest ∙ c.requires.memory.actors_are in
    let bs = c.backends-backends.ensures.count in
    let ws = c.worker_count.ensures in omega (arith, left, all, bs, ws)

pub workers-workers-requires-clause-seats : goal.workers-workers-requires-clause-seats
workers-workers-requires-clause-seats g c κs within =
    let most = length (into_iter_items c.into_iter-3.result) in
    let left = length (into_iter_items c.backends-backends.new.self.seats) in
    let behind = (left_by_workers _ _ _ c.backends-backends.ensures.made.left_are.others).1 in
    let all = ap length c.into_iter-3.ensures.rest ∙ c.requires.memory.seats_are in
    let bs = c.backends-backends.ensures.count in
    let ws = c.worker_count.ensures in
    let needs = needs_of_method c.args.settings.now.method in
    let enough = enough_seats needs.queue needs.workers most c.args.settings.now.backends
    c.args.settings.now.workers left all (omega (arith, behind, bs)) in
    omega (arith, ws, enough)

pub returns : goal.returns
returns g c =
    let memory = c.requires.memory in
    let disks = c.into_iter-2.ensures.rest in
    let opened = ap (λ v. v.items) c.of-opened.ensures in
    let scan : Scan g.row.W.Denot g.row.D.Denot =
    record {
      shared = c.args.memory.shared;
      backends = c.backends-backends.result;
      workers = c.workers-workers.result;
      alloc = c.args.alloc;
      room = 2 ^ 58 - 1 - c.args.start;
      unread = 0;
      rules = c.page_rules.result;
      page_text = c.args.settings.now.page_text;
      opened = c.of-opened.result;
      actors = c.args.memory.lists.actors;
      disks = c.args.memory.lists.disks;
    } in
    opened_scan c.args.settings.now c.args.start scan _ _ _ c.requires.settings c.requires.start
    record {
      config = memory.config;
      frames = memory.frames;
      actors = subst (λ (l : List ActorView). AreNewActors c.args.memory.shared.table 0 l)
          (sym c.into_iter.ensures.rest) memory.actors;
      seats = subst (λ (l : List SeatView). All (IsSeatOf c.args.memory.shared.queue) l)
          (sym c.into_iter-3.ensures.rest) memory.seats;
      desks = subst (λ l. All (IsDeskFor c.args.settings.now) l) (sym c.into_iter-5.ensures.rest)
          memory.desks;
      seats_are = ap length c.into_iter-3.ensures.rest ∙ memory.seats_are;
      rings = subst (λ l. All (IsRingOf c.args.memory.shared.queue) l)
          (sym c.into_iter-4.ensures.rest) memory.rings;
      rings_are = ap length c.into_iter-4.ensures.rest ∙ memory.rings_are;
      opened = opened ∙ sym disks;
      disks_are = ap length disks ∙ c.requires.disks;
      backends = c.backends-backends.ensures.made;
      backends_are = c.backends-backends.ensures.count;
      workers = c.workers-workers.ensures.made;
      workers_are = c.workers-workers.ensures.count ∙ c.worker_count.ensures;
      room = refl;
      unread = refl;
      options_are = ap (λ (r : PageRules). list_options r c.args.settings.now.page_text)
          c.page_rules.ensures;
      actors_fit = memory.lists.actors_fit;
      disks_fit = memory.lists.disks_fit;
    }
    _ _ c.args.disks.items opened c.requires.tell
