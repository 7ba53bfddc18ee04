use Rattle.std.proofs.Common.{◌≡◌}
use Rattle.aio_handle.specs.ContractViews.{IsActorOf, IsSameActor}
use Rattle.method_worker.specs.QueueViews.{IsSeatOf, IsSameSeat}
use Rattle.method_ring.specs.RingRunner.{GathersIos, PopsReferences}
use Rattle.method_ring.proofs.gather.gather.Given as goal

abbrev pub invariant-loop-popped : goal.invariant-loop-popped
invariant-loop-popped g l = record {
  queue : IsSeatOf l.queue l.seat;
  seat : IsSameSeat l.fn.seat l.seat;
  table : IsActorOf l.table l.actor;
  same : IsSameActor l.fn.actor l.actor;
  told : g.G.Ring.told l.group.ring ≡ g.G.Ring.told l.fn.group.ring;
  relations : g.G.Ring.relations l.group.ring ≡ g.G.Ring.relations l.fn.group.ring;
  reads : g.G.Ring.reads l.group.ring ≡ g.G.Ring.reads l.fn.group.ring;
  faults : g.G.Ring.faults l.group.ring ≡ g.G.Ring.faults l.fn.group.ring;
  gathers : GathersIos g.W.World l.popped l.fn.actor.known l.actor.known
      l.fn.group.claimed_ios l.group.claimed_ios;
  pops : PopsReferences l.popped l.fn.seat l.seat l.fn.actor.known l.actor.known;
}
