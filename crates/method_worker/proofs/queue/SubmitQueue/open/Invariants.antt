use Rattle.std.proofs.Common.{◌≡◌, ◌+◌, [], length}
use Rattle.std.specs.List.{All}
use Rattle.method_worker.specs.QueueViews.{IsNewSeat, IsSeatOf}
use Rattle.method_worker.proofs.queue.SubmitQueue.open.Given as goal

abbrev pub invariant-loop-number : goal.invariant-loop-number
invariant-loop-number g l = record {
  of : IsSeatOf l.queue l.first;
  parts : l.first.parts + l.number ≡ 49;
  pushes : l.first.pushes ≡ [];
  pops : l.first.pops ≡ [];
  loads : l.first.loads ≡ [];
  closes : l.first.closes ≡ [];
  count : length l.all.items + 1 ≡ l.number;
  all : All (IsNewSeat l.queue l.fn.seats) l.all.items;
}
