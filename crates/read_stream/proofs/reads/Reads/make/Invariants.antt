use Rattle.std.proofs.Common.{◌≡◌, length}
use Rattle.aio_word.specs.Stands.{IsIn}
use Rattle.aio_callback.specs.ReadIoView.{ReadIoView}
use Rattle.read_stream.proofs.reads.Reads.make.Given as goal

abbrev pub invariant-loop : goal.invariant-loop
invariant-loop g l =
    (l.free.capacity ≡ l.total)
    × (length l.free.items ≡ l.counter)
    × ((r : ReadIoView) → IsIn r l.free.items → length r.pages ≡ l.room)
