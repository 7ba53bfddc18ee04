use Rattle.std.proofs.Common.{◌≡◌, ◌∙◌, List, map, length, ap, sym, subst, arith}
use Rattle.std.specs.List.{AllZip, All}
use Rattle.std.proofs.lemmas.List.{with_items_is}
use Rattle.scan_rounds.specs.DiskActors.{IsBackend}
use Rattle.scan_rounds.specs.Rounds.{AllHaveOptions, backend_disk_actor}
use Rattle.scan_rounds.specs.RunLeads.{share_backend}
use Rattle.scan_rounds.specs.Shares.{ShareSpent}
use Rattle.scan_rounds.specs.declared.backend.Backend.{Backend}
use Rattle.scan_rounds.proofs.ListPairs.{zip-length}
use Rattle.scan_rounds.proofs.share_laws.SharesGathered.{all_may_be_listed, are_backends, as_many}
use Rattle.scan_rounds.proofs.share_laws.SharesGathered.{gathered}
use Rattle.scan_rounds.proofs.share_laws.SharesGathered.{only_those}
use Rattle.scan_rounds.proofs.lead.lead_run.Goals as goal

pub gather_backends-requires-clause-held : goal.gather_backends-requires-clause-held
gather_backends-requires-clause-held g c κs within =
    let may = c.requires.may.exchange in
    let out = c.exchange_until_over.ensures.exchanged may.shares may.hold in
    (out.0, out.1, all_may_be_listed _ _ _ _ _ _ _ out.0 out.2.counted.stand)

pub close_queue-requires-clause-some : goal.close_queue-requires-clause-some
close_queue-requires-clause-some g c κs within =
    let may = c.requires.may.exchange in
    let out = c.exchange_until_over.ensures.exchanged may.shares may.hold in
    let came = c.gather_backends.ensures.gathered out.0 out.1 in
    let home = only_those c.gather_backends.new.backends.items c.args.backends.now.items
    c.as_mut_slice.result.now came.0 c.as_mut_slice.ensures.value came.2 c.requires.may.none_home in
    omega (
      arith,
      ap length home,
      as_many _ _ _ _ _ out.0 came.0 came.1,
      zip-length _ _ _ out.2.counted.advanced,
      may.some,
    )

pub close_queue-requires-clause-backends : goal.close_queue-requires-clause-backends
close_queue-requires-clause-backends g c κs within =
    let may = c.requires.may.exchange in
    let out = c.exchange_until_over.ensures.exchanged may.shares may.hold in
    let came = c.gather_backends.ensures.gathered out.0 out.1 in
    let home = only_those c.gather_backends.new.backends.items c.args.backends.now.items
    c.as_mut_slice.result.now came.0 c.as_mut_slice.ensures.value came.2 c.requires.may.none_home in
    subst (λ (l : List (Backend g.row.W.Denot g.row.D.Denot)).
    All (IsBackend g.D.Disk g.W.World c.args.shared.now.table c.args.shared.now.queue) l) (sym home)
    (are_backends _ _ _ _ _ out.0 came.0 came.1)

pub returns : goal.returns
returns g c = record {
  led = record {
    gathered = λ ss hold.
        (let may = c.requires.may in
        let out = c.exchange_until_over.ensures.exchanged ss hold in
        let came = c.gather_backends.ensures.gathered out.0 out.1 in
        let closed = c.close_queue.ensures in
        let table = c.args.shared.now.table in
        let queue = c.args.shared.now.queue in
        let home : c.as_mut_slice.result.now ≡ map share_backend came.0 = only_those
        c.gather_backends.new.backends.items c.args.backends.now.items c.as_mut_slice.result.now
        came.0 c.as_mut_slice.ensures.value came.2 may.none_home in
        let items = with_items_is c.gather_backends.new.backends c.close_queue.new.backends
        (omega (arith, c.close_queue.auto.backends, c.as_mut_slice.ensures.len)) in
        let spent = subst (λ f. AllZip (ShareSpent g.D.Disk g.W.World table queue f) out.0 came.0)
        (sym may.exchange.filter_is) came.1 in
        rw items (gathered g.W.World g.A.JobSource g.met.A.JobSource.giving_none_follows
        g.met.A.JobSource.follows_on g.D.Disk table queue ss out.0 came.0
        c.close_queue.new.backends _ _ out.2 out.3 spent
        (closed.disk_actors
        ∙ ap (λ (l : List (Backend g.row.W.Denot g.row.D.Denot)). map backend_disk_actor l) home)
        closed.backends
        (λ how all. closed.options how (subst (AllHaveOptions how) (sym home) all)) closed.closed));
  };
}
