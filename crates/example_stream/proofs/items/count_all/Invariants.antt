use Rattle.std.proofs.Common.{◌≡◌, ◌*◌, ◌≤◌, ◌-◌, [], length}
use Rattle.aio_handle.specs.ContractViews.{IsActorOf, IsSameActor}
use Rattle.read_stream.specs.StreamState.{IsOpenFor, stream_view}
use Rattle.read_stream.specs.StreamViews.{IsSameStream}
use Rattle.example_stream.specs.Items.{StreamCounted}
use Rattle.example_stream.proofs.items.count_all.Given as goal

abbrev pub invariant-loop-more : goal.invariant-loop-more
invariant-loop-more g l = record {
  of : IsActorOf l.table l.actor;
  told : (g.E.Execute.told l.runner ≡ g.W.World.told)
      × (g.E.Execute.relations l.runner ≡ g.W.World.relations);
  same : IsSameActor l.fn.actor l.actor;
  is_open : IsOpenFor (λ r. r) g.W.World l.stream
      l.actor;
  stream : IsSameStream (stream_view (λ r. r) l.fn.stream) (stream_view (λ r. r) l.stream);
  given : (stream_view (λ r. r) l.stream).given ≡ l.pages;
  few : l.items ≤ 65535 * l.pages;
  so_far : StreamCounted g.W.World.told (stream_view (λ r. r) l.stream) [] l.items l.pages;
}

abbrev pub decreases-loop-more : goal.decreases-loop-more
decreases-loop-more g l =
    length (stream_view (λ r. r) l.fn.stream).blocks - (stream_view (λ r. r) l.stream).given
