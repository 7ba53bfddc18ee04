use Rattle.std.proofs.Common.{[], ◌∷◌, arith, ap, sym, subst, length}
use Rattle.std.specs.List.{All}
use Rattle.std.proofs.lemmas.List.Elements.{All-tail}
use Rattle.scan_jobs.specs.BlockFilter.{filter_of_skipping}
use Rattle.scan_rounds.specs.Exchanges.{ClientsHold, ShareStandsIn, SharesExchanged}
use Rattle.scan_rounds.specs.Shares.{AreTermsOf}
use Rattle.scan_rounds.specs.declared.share.Share.{Share}
use Rattle.scan_rounds.proofs.ListPairs.{all_split, zip-length}
use Rattle.scan_rounds.proofs.share_laws.SharesCompose.{all_stand_on, none_exchanged, none_given}
use Rattle.scan_rounds.proofs.share_laws.SharesCompose.{shares_beside, some_beside}
use Rattle.scan_rounds.proofs.share_laws.SharesOfClients.{first_share, held_first, held_none}
use Rattle.scan_rounds.proofs.exchange.+shares.Goals as goal

pub returns-in_default-clause-exchanged : goal.returns-in_default-clause-exchanged
returns-in_default-clause-exchanged g t c = λ ss hold.
    (let none = held_none c.args.clients.now ss c.in_default.ensures.cases hold in (
      [],
      subst (ClientsHold c.args.clients.now) none hold,
      rw none (none_exchanged _ _ _ _ g.A.JobSource c.args.progress.now),
      none_given g.D.Disk g.W.World c.args.shared.now.table c.args.shared.now.queue g.A.JobSource
          c.args.progress.now,
    ))

pub unreachable-requires : goal.unreachable-requires
unreachable-requires g t c = absurd (omega (
  arith,
  zip-length _ _ _ c.requires.clients,
  ap length c.in-Some.ensures.cases.0,
  c.in_default-split_first.ensures.cases,
))

pub exchange_share-first-requires-clause-terms : goal.exchange_share-first-requires-clause-terms
exchange_share-first-requires-clause-terms g t c κs within =
    (all_split c.in-Some-split_first.handoff.now _ _ c.in-Some-split_first.ensures.cases.0
    (λ h. AreTermsOf h.key c.args.shared.now (filter_of_skipping c.args.by_map)) c.requires.terms).0

pub exchange_share-first-requires-clause-stands : goal.exchange_share-first-requires-clause-stands
exchange_share-first-requires-clause-stands g t c κs within =
    first_share
    (ShareStandsIn g.D.Disk g.W.World c.args.shared.now.table c.args.shared.now.queue
    g.A.JobSource c.args.progress.now)
    c.in-Some.client.now c.in-Some.later.now c.args.clients.now _ c.in-Some.ensures.cases.0
    c.requires.stands.1 c.requires.stands.2

pub exchange_all-given-requires-clause-terms : goal.exchange_all-given-requires-clause-terms
exchange_all-given-requires-clause-terms g t c κs within =
    (all_split c.in-Some-split_first.handoff.now _ _ c.in-Some-split_first.ensures.cases.0
    (λ h. AreTermsOf h.key c.args.shared.now (filter_of_skipping c.args.by_map)) c.requires.terms).1

pub exchange_all-given-requires-clause-stands : goal.exchange_all-given-requires-clause-stands
exchange_all-given-requires-clause-stands g t c κs within =
    let own = c.in-Some in
    let (ss, hold, stand) = c.requires.stands in
    let (x, xs, same, first, others) = held_first own.client.now own.later.now ss
    (subst (λ cs. ClientsHold cs ss) own.ensures.cases.0 hold) in
    let (r, requested, exchanged, given) = c.exchange_share-first.ensures.exchanged x first in
    let Stands : Share g.row.W.Denot g.row.D.Denot → Type 0 =
    ShareStandsIn g.D.Disk g.W.World c.args.shared.now.table c.args.shared.now.queue
    g.A.JobSource c.args.progress.now in (
      xs,
      others,
      all_stand_on _ _ _ _ g.A.JobSource c.args.progress.now c.exchange_share-first.new.progress
          xs exchanged.counted (All-tail Stands x xs (subst (λ ys. All Stands ys) same stand)),
    )

pub returns-clause-exchanged : goal.returns-clause-exchanged
returns-clause-exchanged g t c = λ ss hold.
    (let own = c.in-Some in
    let (x, xs, same, first, others) = held_first own.client.now own.later.now ss
    (subst (λ cs. ClientsHold cs ss) own.ensures.cases.0 hold) in
    let (r, requested, exchanged, given) = c.exchange_share-first.ensures.exchanged x first in
    let (rs, held, went, more) = c.exchange_all-given.ensures.exchanged xs others in (
      r ∷ rs,
      (requested, held),
      subst (λ ys. SharesExchanged g.D.Disk g.W.World c.args.shared.now.table
          c.args.shared.now.queue g.A.JobSource ys (r ∷ rs) c.args.progress.now
          c.exchange_all-given.new.progress) (sym same) (shares_beside g.D.Disk g.W.World
          c.args.shared.now.table c.args.shared.now.queue g.A.JobSource x r xs rs _ _ _ exchanged
          went),
      some_beside g.D.Disk g.W.World c.args.shared.now.table c.args.shared.now.queue
          g.A.JobSource x r xs rs _ _ _ c.exchange_share-first.result
          c.exchange_all-given.result _ exchanged went given more
          (λ none. (
            omega (arith, none, c.saturating_add.ensures),
            omega (arith, none, c.saturating_add.ensures),
          ))
          (λ some. omega (arith, some, c.saturating_add.ensures)),
    ))
