use Rattle.std.proofs.Common.{arith}
use Rattle.scan_jobs.specs.BlockFilter.{filter_of_skipping}
use Rattle.scan_rounds.specs.Shares.{AreTermsOf, ShareMayBeListed, ShareSpent}
use Rattle.scan_rounds.proofs.ListPairs.{all_split, zip-length}
use Rattle.scan_rounds.proofs.share_laws.SharesOfClients.{first_share, later_shares, none_gathered}
use Rattle.scan_rounds.proofs.share_laws.SharesOfClients.{one_gathered}
use Rattle.scan_rounds.proofs.lead.+coming_home.Goals as goal

pub returns-in_default : goal.returns-in_default
returns-in_default g t c = record {
  gathered = none_gathered
      (ShareSpent g.D.Disk g.W.World c.args.shared.now.table c.args.shared.now.queue
      (filter_of_skipping c.args.by_map))
      c.args.clients.now c.args.backends.now.items c.in_default.ensures.cases;
}

pub unreachable-requires : goal.unreachable-requires
unreachable-requires g t c = omega (
  arith,
  c.in_default-split_first.ensures.cases,
  c.in-Some.ensures.cases.1,
  zip-length _ _ _ c.requires.clients,
)

pub take_share-share-requires-clause-terms : goal.take_share-share-requires-clause-terms
take_share-share-requires-clause-terms g t c κs within =
    (all_split c.in-Some-split_first.handoff.now _ _ c.in-Some-split_first.ensures.cases.0
    (λ h. AreTermsOf h.key c.args.shared.now (filter_of_skipping c.args.by_map)) c.requires.terms).0

pub take_share-share-requires-clause-may : goal.take_share-share-requires-clause-may
take_share-share-requires-clause-may g t c κs within =
    first_share
    (ShareMayBeListed g.D.Disk g.W.World c.args.shared.now.table c.args.shared.now.queue)
    c.in-Some.client.now c.in-Some.later.now c.args.clients.now _ c.in-Some.ensures.cases.0
    c.requires.held.1 c.requires.held.2

pub gather_backends-requires-clause-terms : goal.gather_backends-requires-clause-terms
gather_backends-requires-clause-terms g t c κs within =
    (all_split c.in-Some-split_first.handoff.now _ _ c.in-Some-split_first.ensures.cases.0
    (λ h. AreTermsOf h.key c.args.shared.now (filter_of_skipping c.args.by_map)) c.requires.terms).1

pub gather_backends-requires-clause-held : goal.gather_backends-requires-clause-held
gather_backends-requires-clause-held g t c κs within =
    later_shares
    (ShareMayBeListed g.D.Disk g.W.World c.args.shared.now.table c.args.shared.now.queue)
    c.in-Some.client.now c.in-Some.later.now c.args.clients.now _ c.in-Some.ensures.cases.0
    c.requires.held.1 c.requires.held.2

pub returns : goal.returns
returns g t c = record {
  gathered = one_gathered
      (ShareSpent g.D.Disk g.W.World c.args.shared.now.table c.args.shared.now.queue
      (filter_of_skipping c.args.by_map))
      c.in-Some.client.now c.in-Some.later.now c.args.clients.now
      c.take_share-share.result
      c.args.backends.now.items c.push_reserved.new.self.items _ c.in-Some.ensures.cases.0
      (λ s here. (c.take_share-share.ensures.taken s here).spent) c.push_reserved.ensures.items
      c.gather_backends.ensures.gathered;
}
