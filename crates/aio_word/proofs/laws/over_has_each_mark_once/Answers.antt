use Rattle.aio_word.proofs.EventEffect.{get-at}
use Rattle.aio_word.proofs.laws.over_has_each_mark_once.Goals as goal

pub returns : goal.returns
returns c = λ config words parts h g w k s e lo hi.
    (s.each_handle h w (get-at words h w e)).past_marks g lo hi k
