use Rattle.std.proofs.Common.{◌≡◌, ◌≤◌, replicate}
use Rattle.std.specs.Prelude.{vec_capacity}
use Rattle.aio_callback.proofs.record.fill_room.Given as goal

abbrev pub invariant-loop : goal.invariant-loop
invariant-loop l =
    (l.pages.items ≡ replicate l.counter (replicate 8192 0)) × (l.fn.room ≤ vec_capacity l.pages)
