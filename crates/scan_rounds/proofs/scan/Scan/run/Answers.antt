use Rattle.std.proofs.Common.{◌≡◌, arith, rules, refl, sym, ap, ◌∙◌, subst, length}
use Rattle.std.proofs.lemmas.List.{with_items_is}
use Rattle.scan_rounds.specs.Scans.{IsOpenedAgain}
use Rattle.scan_rounds.proofs.ScanAfterRounds.{serving_in}
use Rattle.scan_rounds.proofs.ScanAfterRun.{backends_may_run, source_ran}
use Rattle.scan_rounds.proofs.scan.Scan.run.Goals as goal

pub run_backends-job_source-requires-clause-serve : goal.run_backends-job_source-requires-clause-serve
run_backends-job_source-requires-clause-serve g c κs within =
    let q = c.reopen_queue.ensures.queue in
    serving_in _ _ c.args.self.now _ _ _ c.requires.may.scan c.reopen_queue.ensures.table q.0 q.1
    (search rules)

pub run_backends-job_source-requires-clause-may : goal.run_backends-job_source-requires-clause-may
run_backends-job_source-requires-clause-may g c κs within =
    let r = c.reopen_queue.ensures in
    let same : c.reopen_queue.new.backends ≡ c.args.self.now.backends.items = search rules in
    let own = with_items_is c.args.self.now.backends c.reopen_queue.new.backends
    (omega (arith, ap length same)) in
    rw own (backends_may_run _ _ _ _ c.args.self.now _ _ _ _ c.requires.may r.table r.queue.0
    r.queue.1 same)

pub least_room-requires-clause-some : goal.least_room-requires-clause-some
least_room-requires-clause-some g c κs within =
    let r = c.reopen_queue.ensures in
    let same : c.reopen_queue.new.backends ≡ c.args.self.now.backends.items = search rules in
    let own = with_items_is c.args.self.now.backends c.reopen_queue.new.backends
    (omega (arith, ap length same)) in
    let long = ap length (own ∙ same) in
    let after = ap length c.as_mut_slice-backends.ensures.value in
    omega (arith, after, long, c.run_backends-job_source.ensures.ran.as_many, c.requires.may.scan.some)

pub returns : goal.returns
returns g c =
    let s = c.args.self.now in
    let r = c.reopen_queue.ensures in
    let e = c.run_backends-job_source.ensures in
    let same : c.reopen_queue.new.backends ≡ s.backends.items = search rules in
    let own = with_items_is s.backends c.reopen_queue.new.backends
    (omega (arith, ap length same)) in
    let slice = c.as_mut_slice-backends.ensures in
    let backends = with_items_is c.run_backends-job_source.new.backends c.as_mut_slice-backends.result.now
    slice.len ∙ slice.value in
    let workers = with_items_is s.workers c.run_backends-job_source.new.workers
    (omega (arith, e.workers_served.as_many, c.as_mut_slice-workers.ensures.len)) in
    record {
      ran_source = source_ran _ _ _ _ s _ _ _ _ c.requires.may (own ∙ same) (rw backends e.ran)
          (rw (backends, sym slice.value) c.least_room.ensures.least)
          c.as_mut_slice-workers.result.now r.table c.as_mut_slice-workers.ensures.value
          (rw workers e.workers_served) (subst (λ bs. IsOpenedAgain bs s.shared.queue
          c.reopen_queue.new.shared.queue) c.as_mut_slice.ensures.value r.reopened) refl refl refl
          refl;
    }
