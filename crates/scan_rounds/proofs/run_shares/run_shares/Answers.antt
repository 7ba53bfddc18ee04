use Rattle.std.proofs.Common.{◌*◌, length, refl, ap, ◌∙◌, arith}
use Rattle.std.specs.Prelude.{slice_index_or}
use Rattle.handoff.specs.HandoffViews.{HandoffView, ClientView, IsClientOf}
use Rattle.scan_jobs.specs.BlockFilter.{filter_of_skipping}
use Rattle.scan_rounds.specs.declared.share.RunTerms.{RunTerms}
use Rattle.scan_rounds.specs.declared.share.Share.{Share}
use Rattle.scan_rounds.proofs.BackendsRun.{all_terms, all_went_out, gathered_ran}
use Rattle.scan_rounds.proofs.BackendsRun.{may_exchange_first}
use Rattle.scan_rounds.proofs.LeastRoom.{fewer}
use Rattle.scan_rounds.proofs.ListPairs.{zip-length}
use Rattle.scan_rounds.proofs.run_shares.run_shares.Goals as goal
use Rattle.scan_rounds.proofs.run_shares.run_shares.Goals.{then-begin_shares, else-begin_shares}

pub give_out_backends-requires-clause-terms : goal.give_out_backends-requires-clause-terms
give_out_backends-requires-clause-terms g c κs within =
    let (k, memory, terms) = c.requires.memory in (
      filter_of_skipping c.args.by_map,
      all_terms k c.args.shared.now (filter_of_skipping c.args.by_map) _ _
          c.as_slice-handoffs.ensures.value memory.keys_are terms,
    )

pub give_out_backends-requires-clause-backends : goal.give_out_backends-requires-clause-backends
give_out_backends-requires-clause-backends g c κs within =
    let (k, memory, terms) = c.requires.memory in
    let may = c.requires.may in
    let clients = ap length c.as_mut_slice-clients.ensures.value in
    let as_many = zip-length (λ (h : HandoffView (RunTerms _)) (s : ClientView (RunTerms _)
    (Share _ _)). IsClientOf h s) _ _ memory.clients_are in (
      omega (arith, clients, as_many, memory.handoffs_are),
      record {
        backends = may.backends;
        room = λ i d lt. fewer 0 (64 * g.A.JobSource.blocks_left c.args.job_source)
            (slice_index_or c.args.backends.now.items i d).disk_actor.actor (omega arith)
            (may.room i d lt);
      },
    )

pub give_out_backends-requires-clause-lists : goal.give_out_backends-requires-clause-lists
give_out_backends-requires-clause-lists g c κs within =
    let (k, memory, terms) = c.requires.memory in
    let clients = ap length c.as_mut_slice-clients.ensures.value in
    let as_many = zip-length (λ (h : HandoffView (RunTerms _)) (s : ClientView (RunTerms _)
    (Share _ _)). IsClientOf h s) _ _ memory.clients_are in (
      omega (arith, clients, as_many, memory.handoffs_are, memory.lists_are),
      memory.lists_have_places,
    )

pub begin_shares-requires-clause-may : goal.begin_shares-requires-clause-may
begin_shares-requires-clause-may g c κs within =
    let (k, memory, terms) = c.requires.memory in
    let out = c.give_out_backends.ensures in
    let (ss, hold, went, new) = out.out in
    let as_many = ap length c.as_slice-handoffs.ensures.value ∙ memory.handoffs_are in
    let all = all_went_out _ _ ss _ _ as_many out.clients hold went in
    may_exchange_first _ _ _ c.args.shared.now _ _ _ c.args.memory.places ss _ _ c.requires.may
    (all_terms k c.args.shared.now (filter_of_skipping c.args.by_map) _ _
    c.as_slice-handoffs.ensures.value memory.keys_are terms) out.clients hold new all.1
    memory.spare_has_places memory.places

pub run_beside-requires-clause-may : goal.run_beside-requires-clause-may
run_beside-requires-clause-may g c κs within =
    let (k, memory, terms) = c.requires.memory in
    let out = c.give_out_backends.ensures in
    let begun = c.begin_shares.ensures.may in
    let (ss, hold, went, new) = out.out in
    let as_many = ap length c.as_slice-handoffs.ensures.value ∙ memory.handoffs_are in
    let all = all_went_out _ _ ss _ _ as_many out.clients hold went in
    let clients = zip-length (λ (h : HandoffView (RunTerms _)) (s : ClientView (RunTerms _)
    (Share _ _)). IsClientOf h s) _ _ begun.clients_are in
    record {
      exchange = begun;
      none_home = all.0;
      fit = omega (arith, clients, as_many, out.capacity, c.args.backends.now.ok);
    }

pub lead_run-requires-clause-may : goal.lead_run-requires-clause-may
lead_run-requires-clause-may g c κs within =
    let (k, memory, terms) = c.requires.memory in
    let out = c.give_out_backends.ensures in
    let begun = c.begin_shares.ensures.may in
    let (ss, hold, went, new) = out.out in
    let as_many = ap length c.as_slice-handoffs.ensures.value ∙ memory.handoffs_are in
    let all = all_went_out _ _ ss _ _ as_many out.clients hold went in
    let clients = zip-length (λ (h : HandoffView (RunTerms _)) (s : ClientView (RunTerms _)
    (Share _ _)). IsClientOf h s) _ _ begun.clients_are in
    record {
      exchange = begun;
      none_home = all.0;
      fit = omega (arith, clients, as_many, out.capacity, c.args.backends.now.ok);
    }

pub returns-clause-workers_served : goal.returns-clause-workers_served
returns-clause-workers_served g c = elim c.if-begin_shares.branch [
  | then-begin_shares w ↦ rw w.workers-is w.run_beside.ensures.workers_served
  | else-begin_shares w ↦ rw w.workers-is w.run_workers.ensures.workers_served
]

pub returns-clause-ran : goal.returns-clause-ran
returns-clause-ran g c =
    let (k, memory, terms) = c.requires.memory in
    let met = g.met.A.JobSource in
    let out = c.give_out_backends.ensures in
    let (ss, hold, went, new) = out.out in
    let as_many = ap length c.as_slice-handoffs.ensures.value ∙ memory.handoffs_are in
    let all = all_went_out _ _ ss _ _ as_many out.clients hold went in
    let (rs, held, round) = c.begin_shares.ensures.begun ss hold in
    elim c.if-begin_shares.branch [
      | then-begin_shares w ↦ rw (w.backends-is, w.progress-is)
          (gathered_ran _ _ _ _ _ _ ss rs _ _ _ _ _ met.follows_itself met.giving_none refl
          new all.1 round (w.run_beside.ensures.led.gathered rs held))
      | else-begin_shares w ↦ rw (w.backends-is, w.progress-is)
          (gathered_ran _ _ _ _ _ _ ss rs _ _ _ _ _ met.follows_itself met.giving_none refl
          new all.1 round (w.lead_run.ensures.led.gathered rs held))
    ]
