use Rattle.aio_handle.specs.ContractViews.{IsActorOf}
use Rattle.example_handle.specs.ActorPair.{IsInFlightAbout}
use Rattle.example_handle.proofs.backend.take_in.Given as goal

abbrev pub invariant-loop : goal.invariant-loop
invariant-loop g l = record {
  can_next : (goal.iterator-loop g).can_next l.iterator';
  is_finite : (goal.iterator-loop g).is_finite l.iterator';
  table : IsActorOf l.table l.backend;
  in_flight_about : IsInFlightAbout l.token 21 l.backend.known;
}
