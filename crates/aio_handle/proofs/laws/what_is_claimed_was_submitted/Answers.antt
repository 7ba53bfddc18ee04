use Rattle.aio_handle.proofs.SeatLists.{submitted-before}
use Rattle.aio_handle.proofs.laws.what_is_claimed_was_submitted.Goals as goal

pub returns : goal.returns
returns c = λ config p q t s own lt. submitted-before config p q t s own lt
