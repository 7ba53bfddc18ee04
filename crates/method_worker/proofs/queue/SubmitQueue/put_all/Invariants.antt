use Rattle.std.proofs.Common.{take}
use Rattle.method_worker.specs.QueueViews.{IsSeatOf, IsSameSeat}
use Rattle.method_worker.specs.SeatCalls.{SeatPushes}
use Rattle.method_worker.proofs.queue.SubmitQueue.put_all.Given as goal

abbrev pub invariant-loop-pushed : goal.invariant-loop-pushed
invariant-loop-pushed g l = record {
  queue : IsSeatOf l.self l.seat;
  seat : IsSameSeat l.fn.seat l.seat;
  seat_pushes : SeatPushes (take l.pushed l.references) l.fn.seat l.seat;
}
