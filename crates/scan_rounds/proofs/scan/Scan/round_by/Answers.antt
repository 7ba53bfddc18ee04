use Rattle.std.proofs.Common.{◌≡◌, arith, rules, refl, ap, ◌∙◌, subst, length}
use Rattle.std.proofs.lemmas.List.{with_items_is}
use Rattle.aio_handle.specs.ContractViews.{TableView}
use Rattle.scan_rounds.specs.Rounds.{AllHaveOptions, AllJobsListed, results_taken_count}
use Rattle.scan_rounds.specs.Scans.{IsOpenedAgain, scan_options}
use Rattle.scan_jobs.specs.BlockFilter.{filter_of_skipping}
use Rattle.scan_rounds.proofs.ActorsAdvance.{many_actors}
use Rattle.scan_rounds.proofs.ScanAfterRounds.{waiting_in, serving_in, scan_again}
use Rattle.scan_rounds.proofs.scan.Scan.round_by.Goals as goal

pub round_beside-requires-clause-serve : goal.round_beside-requires-clause-serve
round_beside-requires-clause-serve g c κs within =
    let q = c.reopen_queue.ensures.queue in
    serving_in _ _ c.args.self.now _ _ _ c.requires.may.scan c.reopen_queue.ensures.table q.0 q.1
    (search rules)

pub round_beside-requires-clause-may : goal.round_beside-requires-clause-may
round_beside-requires-clause-may g c κs within =
    let may = c.requires.may in
    let r = c.reopen_queue.ensures in
    let same : c.reopen_queue.new.backends ≡ c.args.self.now.backends.items = search rules in
    let many = ap length same in
    record {
      ready = waiting_in _ _ c.args.self.now _ _ _ may.scan r.table r.queue.0 r.queue.1
          (search rules);
      fit = omega (arith, may.few.1, many);
      fresh = may.fresh;
      room = omega (arith, may.room);
    }

pub returns : goal.returns
returns g c =
    let may = c.requires.may in
    let r = c.reopen_queue.ensures in
    let e = c.round_beside.ensures in
    let a = e.made in
    let own : c.as_mut_slice-backends.result.now ≡ c.args.self.now.backends.items = search rules in
    let same : c.reopen_queue.new.backends ≡ c.args.self.now.backends.items = search rules in
    let as_many = many_actors _ _ _ _ _ a.actors_advanced in
    let many = as_many ∙ ap length same in
    let options : AllHaveOptions (scan_options c.args.self.now) c.reopen_queue.new.backends =
    rw same may.scan.all_have_options in
    let before = ap (λ bs. results_taken_count bs) same in
    let backends = with_items_is c.args.self.now.backends c.round_beside.new.backends
    (omega (arith, many, ap length own, c.as_mut_slice-backends.ensures.len)) in
    let workers = with_items_is c.args.self.now.workers c.round_beside.new.workers
    (omega (arith, e.workers_served.as_many, c.as_mut_slice-workers.ensures.len)) in
    record {
      made_round = record {
        scan = scan_again _ _ c.args.self.now _ c.reopen_queue.new.backends
            c.as_mut_slice-workers.result.now may.scan r.table same (search rules)
            (rw backends a.ready) (rw workers e.workers_served) (rw backends a.actors_advanced)
            (rw backends (a.all_have_options _ options)) (rw backends as_many) refl refl refl;
        same = record {
          config = ap (λ (t : TableView). t.config) r.table;
          as_many = rw backends many;
          opened = refl;
          options_same = refl;
        };
        reopened = subst (λ bs. IsOpenedAgain bs c.args.self.now.shared.queue
            c.reopen_queue.new.shared.queue) own r.reopened;
        closed = rw backends e.closed;
        listed = rw backends (subst (λ bs. AllJobsListed (filter_of_skipping c.args.by_map)
            (scan_options c.args.self.now) g.W.World.told bs c.round_beside.new.backends
            c.args.jobs.now c.round_beside.new.jobs) same (a.by_place _ options));
        room = omega (arith, a.room);
        unread = a.unread;
        results_bound = rw backends (omega (arith, a.results_bound, before));
      };
    }
