use Rattle.std.proofs.Common.{◌≡◌, ◌<◌, ◌≤◌, ℕ, length}
use Rattle.aio_handle.specs.OwnHandles.{own_at}
use Rattle.aio_handle.proofs.own_handles.room_of.Given as goal

abbrev pub invariant-loop-handle : goal.invariant-loop-handle
invariant-loop-handle l = record {
  each : (k : ℕ) → k < l.handle-index → (own_at l.own k).generation ≤ l.greatest;
  one : (k : ℕ) × (k < length l.own) × ((own_at l.own k).generation ≡ l.greatest);
}
