use Rattle.std.proofs.Common.{◌≡◌, ◌≤◌, replicate}
use Rattle.std.specs.Prelude.{vec_capacity}
use Rattle.vis_map.proofs.map.VisMap.open.Given as goal

abbrev pub invariant-loop : goal.invariant-loop
invariant-loop l =
    (l.room.items ≡ replicate l.counter (replicate 8192 0)) × (l.fn.pages ≤ vec_capacity l.room)
