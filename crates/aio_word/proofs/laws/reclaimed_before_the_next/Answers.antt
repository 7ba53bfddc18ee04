use Rattle.aio_word.proofs.LivesOfHandle.{reclaimed-first}
use Rattle.aio_word.proofs.laws.reclaimed_before_the_next.Goals as goal

pub returns : goal.returns
returns c = λ config words parts h g next k s lo lt more. reclaimed-first config words parts s h g
    next k lo lt more
