use Rattle.aio_word.proofs.LivesOfHandle.{taken-after-shared, earlier-mark-total}
use Rattle.aio_word.proofs.laws.shared_then_taken.Goals as goal

pub returns-clause-once : goal.returns-clause-once
returns-clause-once c =
    λ config words parts t s more. taken-after-shared config words parts s t more

pub returns-clause-earlier : goal.returns-clause-earlier
returns-clause-earlier c =
    λ config words parts t earlier later s le. earlier-mark-total config words parts s t earlier
    later
    le
