use Rattle.std.proofs.Common.{◌≡◌, length}
use Rattle.aio_handle.specs.ContractViews.{IsActorOf, IsSameActor}
use Rattle.method_ring.specs.ClaimedIos.{AllClaimedIos}
use Rattle.method_ring.specs.RingRunner.{CompletesGroup}
use Rattle.method_ring.proofs.finish.finish.Given as goal

abbrev pub invariant-loop-claimed : goal.invariant-loop-claimed
invariant-loop-claimed g l = record {
  table : IsActorOf l.table l.actor;
  same : IsSameActor l.fn.actor l.actor;
  told : g.G.Ring.told l.group.ring ≡ g.G.Ring.told l.fn.group.ring;
  relations : g.G.Ring.relations l.group.ring ≡ g.G.Ring.relations l.fn.group.ring;
  holds : AllClaimedIos g.W.World l.actor.known l.group.claimed_ios;
  finishes : CompletesGroup g.W.World.told l.fn.group.claimed_ios l.group.claimed_ios
      l.fn.actor.known l.actor.known
      (g.P.Places.finished l.fn.places) (g.P.Places.finished l.places)
      (g.G.Ring.reads l.fn.group.ring) (g.G.Ring.reads l.group.ring)
      (g.G.Ring.faults l.fn.group.ring) (g.G.Ring.faults l.group.ring);
}

abbrev pub decreases-loop-claimed : goal.decreases-loop-claimed
decreases-loop-claimed g l = length l.group.claimed_ios
