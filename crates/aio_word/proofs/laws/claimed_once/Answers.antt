use Rattle.aio_word.specs.declared.Kind.TheVariants as kind
use Rattle.aio_word.proofs.LivesOfHandle.{mark-once}
use Rattle.aio_word.proofs.laws.claimed_once.Goals as goal

pub returns-clause-claimed : goal.returns-clause-claimed
returns-clause-claimed c = λ config words parts t s. mark-once config words parts s t kind.Claimed

pub returns-clause-each : goal.returns-clause-each
returns-clause-each c = λ config words parts t k s. mark-once config words parts s t k
