use Rattle.std.proofs.Common.{map}
use Rattle.std.specs.List.{range_with_len}
use Rattle.read_callbacks.specs.Finishes.{FinishesGrew}
use Rattle.aio_callback.specs.Finishes.{one_finish}
use Rattle.aio_callback.proofs.record.ReadIo.finish_all.Given as goal

abbrev pub invariant-loop-index : goal.invariant-loop-index
invariant-loop-index g l =
    FinishesGrew (g.P.Places.finished l.fn.places) (g.P.Places.finished l.places)
    (map (one_finish l.self) (range_with_len 0 l.index))
