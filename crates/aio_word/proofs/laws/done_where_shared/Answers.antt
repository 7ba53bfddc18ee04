use Rattle.aio_word.proofs.LivesOfHandle.{done-exactly}
use Rattle.aio_word.proofs.laws.done_where_shared.Goals as goal

pub returns : goal.returns
returns c = λ config words parts h g w s e lo. done-exactly config words parts s h g w e lo
