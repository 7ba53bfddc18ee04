use Rattle.std.proofs.Common.{◌≤◌, List, arith, rules, subst, length}
use Rattle.scan_rounds.proofs.ListPairs.{zip-length}
use Rattle.scan_rounds.proofs.share_laws.SharesCompose.{Stand, advanced_by, advanced_none}
use Rattle.scan_rounds.proofs.share_laws.SharesOfClients.{held_same}
use Rattle.scan_rounds.proofs.exchange.exchange_until_over.Goals as goal

pub loop-places-init : goal.loop-places-init
loop-places-init g c =
    let may = c.requires.may in record {
      clients = may.clients_are;
      places = search rules;
      exchanged = λ ss hold. (
        ss,
        hold,
        advanced_none _ _ _ _ g.A.JobSource ss c.args.progress.now
            (subst (Stand g.D.Disk g.W.World c.args.shared.now.table c.args.shared.now.queue
            g.A.JobSource c.args.progress.now)
            (held_same c.args.clients.now may.shares ss may.hold hold) may.stand),
      );
    }

pub returns-then-exchange_all-eq0-clause-exchanged : goal.returns-then-exchange_all-eq0-clause-exchanged
returns-then-exchange_all-eq0-clause-exchanged g c = λ ss hold.
    (let may = c.requires.may in
    let (rs, held, went) = c.loop-places.invariant.exchanged ss hold in
    let (ts, last, exchanged, given) = c.exchange_all.ensures.exchanged rs held in
    let all = advanced_by _ _ _ _ g.A.JobSource ss rs ts _ _ _ went exchanged in
    let none = given.none c.if-exchange_all-eq0.true in
    let shares = held_same c.args.clients.now may.shares ss may.hold hold in
    let some : 1 ≤ length ss = subst (λ (xs : List _). 1 ≤ length xs) shares may.some in
    (ts, last, all, (none.0, none.1 (omega (arith, some, zip-length _ ss ts all.counted.advanced)))))

pub loop-places-preserved : goal.loop-places-preserved
loop-places-preserved g c = record {
  clients = c.exchange_all.ensures.clients;
  places = search rules;
  exchanged = λ ss hold.
      (let (rs, held, went) = c.loop-places.invariant.exchanged ss hold in
      let (ts, last, exchanged, given) = c.exchange_all.ensures.exchanged rs held in
      (ts, last, advanced_by _ _ _ _ g.A.JobSource ss rs ts _ _ _ went exchanged));
}
