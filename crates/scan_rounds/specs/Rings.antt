-- The rings of backends.
use Rattle.std.specs.Prelude.{◌≡◌, []}
use Rattle.method_worker.specs.QueueViews.{QueueView, IsSeatOf}
use Rattle.scan_rounds.specs.declared.ring.IdleRingState.{IdleRingState}

-- its seat is one of the queue, and its room is empty
abbrev pub IsRingOf : {W : Type 0} → QueueView → IdleRingState W → Type 0
IsRingOf q r = IsSeatOf q r.seat × (r.room ≡ [])
