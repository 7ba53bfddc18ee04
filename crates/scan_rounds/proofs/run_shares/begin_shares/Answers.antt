use Rattle.scan_rounds.proofs.BackendsRun.{may_exchange_on}
use Rattle.scan_rounds.proofs.share_laws.SharesCompose.{advanced_by, advanced_once}
use Rattle.scan_rounds.proofs.run_shares.begin_shares.Goals as goal

pub returns-then-given-ne1-clause-may : goal.returns-then-given-ne1-clause-may
returns-then-given-ne1-clause-may g c =
    let may = c.requires.may in
    let given = c.exchange_all-given.ensures in
    let (rs, hold, went, some) = given.exchanged may.shares may.hold in
    may_exchange_on _ _ _ _ _ _ _ _ rs _ _ may
    (advanced_once _ _ _ _ _ may.shares rs _ _ went) given.clients hold

pub returns-then-given-ne1-clause-begun : goal.returns-then-given-ne1-clause-begun
returns-then-given-ne1-clause-begun g c = λ ss held.
    (let (rs, hold, went, some) = c.exchange_all-given.ensures.exchanged ss held in
    (rs, hold, advanced_once _ _ _ _ _ ss rs _ _ went))

pub returns-clause-may : goal.returns-clause-may
returns-clause-may g c =
    let may = c.requires.may in
    let (rs, hold, went, some) = c.exchange_all-given.ensures.exchanged may.shares may.hold in
    let (us, hold', went', some') = c.exchange_all.ensures.exchanged rs hold in
    may_exchange_on _ _ _ _ _ _ _ _ us _ _ may
    (advanced_by _ _ _ _ _ may.shares rs us _ _ _
    (advanced_once _ _ _ _ _ may.shares rs _ _ went) went') c.exchange_all.ensures.clients hold'

pub returns-clause-begun : goal.returns-clause-begun
returns-clause-begun g c = λ ss held.
    (let (rs, hold, went, some) = c.exchange_all-given.ensures.exchanged ss held in
    let (us, hold', went', some') = c.exchange_all.ensures.exchanged rs hold in
    (us, hold', advanced_by _ _ _ _ _ ss rs us _ _ _ (advanced_once _ _ _ _ _ ss rs _ _ went) went'))
