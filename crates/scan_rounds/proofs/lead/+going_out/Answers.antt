use Rattle.std.proofs.Common.{◌≡◌, None, sym, ap, refl, subst, arith, length, length-append, map}
use Rattle.std.proofs.lemmas.List.{length-map}
use Rattle.scan_rounds.specs.RunLeads.{share_backend}
use Rattle.scan_rounds.specs.Shares.{AreTermsOf, ShareMayBeListed}
use Rattle.scan_rounds.specs.declared.share.Share.{Share}
use Rattle.scan_rounds.specs.declared.shared.SharedState.{SharedState}
use Rattle.scan_rounds.proofs.ListPairs.{all_split, zip-length, zip-split}
use Rattle.scan_rounds.proofs.share_laws.SharesOfClients.{all_last, may_go_out, none_out, one_out}
use Rattle.scan_rounds.proofs.lead.+going_out.Goals as goal

pub returns-in_default-clause-out : goal.returns-in_default-clause-out
returns-in_default-clause-out g t c =
    none_out c.args.places c.args.clients.now c.args.backends.now.items c.in_default.ensures.cases

pub unreachable-requires : goal.unreachable-requires
unreachable-requires g t c = omega (
  arith,
  c.in_default-split_first.ensures.cases,
  c.in-Some.ensures.cases.1,
  zip-length _ _ _ c.requires.clients.0,
)

pub give_out_backends-requires-clause-terms : goal.give_out_backends-requires-clause-terms
give_out_backends-requires-clause-terms g t c κs within = (
  c.requires.terms.0,
  (all_split c.in-Some-split_first.handoff.now _ _ c.in-Some-split_first.ensures.cases.0
      (λ h. AreTermsOf h.key c.args.shared.now c.requires.terms.0) c.requires.terms.1).1,
)

pub give_out_backends-requires-clause-clients : goal.give_out_backends-requires-clause-clients
give_out_backends-requires-clause-clients g t c κs within = (
  (zip-split _ _ _ _ _ _ _ c.in-Some-split_first.ensures.cases.0 c.in-Some.ensures.cases.0
      c.requires.clients.0).1,
  (all_split c.in-Some.client.now _ _ c.in-Some.ensures.cases.0 (λ n. n.requested ≡ None)
      c.requires.clients.1).1,
)

pub unreachable-requires-in_default-pop : goal.unreachable-requires-in_default-pop
unreachable-requires-in_default-pop g t c =
    let out = c.give_out_backends.ensures.out in omega (
      arith,
      c.in_default-pop.ensures.cases.0,
      c.in-Some.ensures.cases.1,
      c.requires.backends.0,
      c.give_out_backends.auto.clients,
      ap length out.2,
      length-append c.give_out_backends.new.backends.items (map share_backend out.0),
      length-map out.0 share_backend,
      zip-length _ _ _ out.1,
    )

pub put-requires-clause-idle : goal.put-requires-clause-idle
put-requires-clause-idle g t c =
    (all_split c.in-Some.client.now _ _ c.in-Some.ensures.cases.0 (λ n. n.requested ≡ None)
    c.requires.clients.1).0

pub put-requires-clause-may : goal.put-requires-clause-may
put-requires-clause-may g t c =
    let same = (all_split c.in-Some-split_first.handoff.now _ _ c.in-Some-split_first.ensures.cases.0
    (λ h. AreTermsOf h.key c.args.shared.now c.requires.terms.0) c.requires.terms.1).0.0 in
    let out = c.give_out_backends.ensures.out in
    let s : Share g.row.W.Denot g.row.D.Denot = record {
      backend = c.in-Some-pop.backend;
      jobs = c.in-Some-pop-2.jobs;
      count = 0;
    } in
    subst (λ (x : SharedState g.row.W.Denot). ShareMayBeListed g.D.Disk g.W.World x.table x.queue s)
    (sym same) (may_go_out _ _ _ _ _ _ _ _ s refl c.requires.backends.1 out.2
    c.in-Some-pop.ensures.items)

pub returns-clause-lists : goal.returns-clause-lists
returns-clause-lists g t c =
    let lists = c.give_out_backends.ensures.lists in (
      omega (arith, c.in-Some-pop-2.ensures.cases, c.in-Some.ensures.cases.1, lists.0),
      (all_last c.in-Some-pop-2.jobs _ _ c.in-Some-pop-2.ensures.items (λ l. length l.items
          ≡ c.args.places) lists.1).0,
    )

pub returns-clause-out : goal.returns-clause-out
returns-clause-out g t c =
    let lists = c.give_out_backends.ensures.lists in
    one_out c.args.places c.put.new.client _ _ _ _ _ c.put.ensures.requested (
      refl,
      (all_last c.in-Some-pop-2.jobs _ _ c.in-Some-pop-2.ensures.items (λ l. length l.items
          ≡ c.args.places) lists.1).1,
    )
    c.in-Some-pop.ensures.items c.give_out_backends.ensures.out
