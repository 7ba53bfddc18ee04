use Rattle.std.proofs.Common.{◌≡◌, ◌-◌, length}
use Rattle.aio_handle.specs.ContractViews.{IsActorOf}
use Rattle.stream_answer.specs.StreamAnswers.{stream_entries}
use Rattle.read_stream.specs.StreamState.{IsOpenFor, stream_view}
use Rattle.read_stream.specs.StreamViews.{CallAdvanced, IsSameStream}
use Rattle.scan_jobs.proofs.ConsumerProgress.{SoFar}
use Rattle.scan_rounds.proofs.reading.take_all.Given as goal

abbrev pub invariant-loop-ending : goal.invariant-loop-ending
invariant-loop-ending g l = record {
  of : IsActorOf l.table l.actor;
  told : (g.E.Execute.told l.runner ≡ g.W.World.told)
      × (g.E.Execute.relations l.runner ≡ g.W.World.relations);
  advanced : CallAdvanced g.E.Execute g.M.Method l.fn.actor l.actor l.fn.runner l.runner
      l.fn.method l.method;
  is_open : IsOpenFor g.S.BlockSource.left g.W.World l.stream l.actor;
  stream : IsSameStream (stream_view g.S.BlockSource.left l.fn.stream)
      (stream_view g.S.BlockSource.left l.stream);
  most : g.C.Consumer.most l.consumer ≡ g.C.Consumer.most l.fn.consumer;
  kept : g.C.Consumer.kept l.consumer ≡ g.C.Consumer.kept l.fn.consumer;
  so_far : SoFar (g.C.Consumer.holds l.consumer) (stream_view g.S.BlockSource.left l.fn.stream).settings.rules g.W.World.told
      (stream_entries l.relation (stream_view g.S.BlockSource.left l.fn.stream).blocks) (stream_view g.S.BlockSource.left l.stream).given;
}

abbrev pub decreases-loop-ending : goal.decreases-loop-ending
decreases-loop-ending g l =
    length (stream_entries l.relation (stream_view g.S.BlockSource.left l.fn.stream).blocks) - (stream_view g.S.BlockSource.left l.stream).given
