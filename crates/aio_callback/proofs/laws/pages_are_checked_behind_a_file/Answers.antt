use Rattle.read_callbacks.proofs.ChecksByPlaces.{checked_by_places}
use Rattle.aio_callback.proofs.laws.pages_are_checked_behind_a_file.Goals as goal

pub returns : goal.returns
returns c = checked_by_places
