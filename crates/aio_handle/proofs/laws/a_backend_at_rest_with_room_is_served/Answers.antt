use Rattle.aio_handle.proofs.LivesCounted.{backend-is-served}
use Rattle.aio_handle.proofs.laws.a_backend_at_rest_with_room_is_served.Goals as goal

pub returns : goal.returns
returns c = backend-is-served
