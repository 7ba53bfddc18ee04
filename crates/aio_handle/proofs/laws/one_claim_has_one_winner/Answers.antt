use Rattle.aio_word.specs.declared.Kind.TheVariants as kind
use Rattle.aio_handle.proofs.SeatLists.{not-both, not-other}
use Rattle.aio_handle.proofs.laws.one_claim_has_one_winner.Goals as goal

pub returns-clause-won : goal.returns-clause-won
returns-clause-won c = λ config p q t s a b. not-both config p q t s kind.Claimed a.since b.since

pub returns-clause-each : goal.returns-clause-each
returns-clause-each c = λ config p q t k s lt. not-other config p q t s k lt
