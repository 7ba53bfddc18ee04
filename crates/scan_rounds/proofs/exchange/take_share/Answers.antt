use Rattle.std.proofs.Common.{subst}
use Rattle.scan_jobs.specs.BlockFilter.{filter_of_skipping}
use Rattle.scan_rounds.specs.Exchanges.{ShareTakenBack}
use Rattle.scan_rounds.proofs.share_laws.SharesExchange.{taken_unlisted}
use Rattle.scan_rounds.proofs.share_laws.SharesOfClients.{same_request}
use Rattle.scan_rounds.proofs.exchange.take_share.Goals as goal

pub returns-else-wanted-clause-taken : goal.returns-else-wanted-clause-taken
returns-else-wanted-clause-taken g c = λ s is.
    (let same = same_request s c.in-Request.share is c.in-Request.ensures.request in
    subst (λ r. ShareTakenBack g.D.Disk g.W.World c.args.shared.now.table c.args.shared.now.queue
    (filter_of_skipping c.args.by_map) c.args.wanted s r) same
    (taken_unlisted _ _ _ _ c.args.wanted s c.if-wanted.false (c.requires.may s is)))
