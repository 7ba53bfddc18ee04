use Rattle.std.proofs.Common.{◌≡◌, rules, refl, sym, ap, arith, length}
use Rattle.std.proofs.lemmas.List.{with_items_is}
use Rattle.std.specs.Prelude.{slice_index_or}
use Rattle.scan_rounds.specs.Progress.{BackendsAreReady}
use Rattle.scan_rounds.specs.Rounds.{FirstBackendReadMap}
use Rattle.scan_rounds.proofs.ActorsAdvance.{actors_advanced, backends_many, options_kept}
use Rattle.scan_rounds.proofs.ActorsAdvance.{room_falls, still_backends}
use Rattle.scan_rounds.proofs.totals.CountRaised.{raised_within}
use Rattle.scan_rounds.proofs.LeastRoom.{fewer}
use Rattle.scan_rounds.proofs.ScanAfterMap.{backends_read, map_read, results_bound, results_read}
use Rattle.scan_rounds.proofs.ScanAfterMap.{workers_stay}
use Rattle.scan_rounds.proofs.ScanAfterRounds.{scan_again}
use Rattle.scan_rounds.proofs.scan.Scan.map.Goals as goal

pub read_by_first-ending-requires-clause-room : goal.read_by_first-ending-requires-clause-room
read_by_first-ending-requires-clause-room g c κs within =
    let same : c.as_mut_slice-backends.result.now ≡ c.args.self.now.backends.items = search rules in
    rw same
    (λ i d lt. fewer 65 c.args.self.now.room
    (slice_index_or c.args.self.now.backends.items i d).disk_actor.actor c.requires.may.room
    (c.requires.may.scan.room.all_have_room i d lt))

pub returns : goal.returns
returns g c =
    let scan = c.requires.may.scan in
    let s = c.args.self.now in
    let own : c.as_mut_slice-backends.result.now ≡ s.backends.items = search rules in
    let after = c.read_by_first-ending.new in
    let read : FirstBackendReadMap g.D.Disk g.W.World s.shared.table
    s.shared.queue s.backends.items after.backends c.args.relation c.args.map.now.pages after.map
    after.warnings.items c.read_by_first-ending.result =
    rw (sym own) c.read_by_first-ending.ensures.read in
    let least = c.least_room.ensures.least in
    let went = backends_read _ _ _ _ _ _ _ _ _ _ _ read scan.all_backends in
    let many : length after.backends ≡ length s.backends.items =
    backends_many _ _ _ _ _ _ _ went in
    let ready : BackendsAreReady g.D.Disk g.W.World s.shared.table
    s.shared.queue after.backends
    (record { room = c.least_room.result; unread = c.count_one.result }) = record {
      some = omega (arith, many, scan.some);
      backends = still_backends _ _ _ _ _ _ _ went;
      room = least;
      few_unread = raised_within _ _ _ _ _ c.count_one.ensures scan.few_unread
          (results_read _ _ _ _ _ _ _ _ _ _ _ read);
    } in
    let backends = with_items_is s.backends after.backends
    (omega (arith, many, ap length own, c.as_mut_slice-backends.ensures.len)) in
    record {
      map_read = record {
        scan = scan_again _ _ s _ s.backends.items s.workers.items scan refl refl refl
            (rw backends ready) (workers_stay _ _ _ _ _ scan.all_workers)
            (rw backends (actors_advanced _ _ _ _ _ _ _ went))
            (rw backends (options_kept _ _ _ _ _ _ _ went _ scan.all_have_options))
            (rw backends many) refl refl refl;
        same = record {
          config = refl;
          as_many = rw backends many;
          opened = refl;
          options_same = refl;
        };
        read = rw backends (map_read _ _ _ _ _ _ _ _ _ _ _ read _ scan.all_have_options);
        pages = c.read_by_first-ending.ensures.pages;
        room = room_falls _ _ _ _ _ _ _ went _ _ scan.all_backends scan.room least;
        unread = c.count_one.ensures;
        results_bound = rw backends (results_bound _ _ _ _ _ _ _ _ _ _ _ read);
      };
    }
