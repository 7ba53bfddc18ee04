use Rattle.std.proofs.Common.{◌≡◌, ◌≤◌, ◌-◌, length}
use Rattle.aio_handle.specs.ContractViews.{IsActorOf}
use Rattle.read_stream.specs.StreamState.{IsOpenFor, stream_view}
use Rattle.read_stream.specs.StreamViews.{CallAdvanced, IsSameStream}
use Rattle.page_reader.specs.PagesTaken.{TakenSoFar}
use Rattle.page_reader.proofs.reading.take_all.Given as goal

abbrev pub invariant-pages : goal.invariant-pages
invariant-pages g l = record {
  of : IsActorOf l.table l.actor;
  told : (g.E.Execute.told l.runner ≡ g.W.World.told)
      × (g.E.Execute.relations l.runner ≡ g.W.World.relations);
  advanced : CallAdvanced g.E.Execute g.M.Method l.fn.actor l.actor l.fn.runner l.runner
      l.fn.method l.method;
  is_open : IsOpenFor g.S.BlockSource.left g.W.World l.stream l.actor;
  stream : IsSameStream (stream_view g.S.BlockSource.left l.fn.stream)
      (stream_view g.S.BlockSource.left l.stream);
  most : g.C.PageConsumer.most l.consumer ≡ g.C.PageConsumer.most l.fn.consumer;
  few : length (stream_view g.S.BlockSource.left l.fn.stream).blocks
      ≤ g.C.PageConsumer.most l.consumer;
  taken : TakenSoFar (g.C.PageConsumer.holds l.consumer) g.W.World.told
      (stream_view g.S.BlockSource.left l.stream);
}

abbrev pub decreases-pages : goal.decreases-pages
decreases-pages g l = length (stream_view g.S.BlockSource.left l.fn.stream).blocks
    - (stream_view g.S.BlockSource.left l.stream).given
