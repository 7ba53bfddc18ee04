use Rattle.std.proofs.Common.{◌≡◌, ℕ, ◌+◌, ◌<◌, ◌≤◌, Some, length}
use Rattle.buf_pool.specs.declared.descriptor.Tag.{Tag}
use Rattle.buf_pool.specs.Frames.{tag_at}
use Rattle.buf_pool.specs.Probes.{ProbesFind, empty_slots}
use Rattle.buf_pool.proofs.table.rebuild.Given as goal

abbrev pub invariant-loop-i : goal.invariant-loop-i
invariant-loop-i l = record {
  size : length l.slots ≡ length l.initial.slots;
  room : length l.slots ≤ empty_slots l.slots + l.i;
  found : (f : ℕ) (tag : Tag) → f < l.i → tag_at l.frames f ≡ Some tag → ProbesFind l.slots tag f;
}
