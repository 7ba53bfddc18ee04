use Rattle.aio_handle.specs.ContractViews.{IsActorOf}
use Rattle.method_tests.proofs.worker.sleepers.look_until_done.Given as goal

abbrev pub invariant-loop : goal.invariant-loop
invariant-loop g l = record {
  can_next : (goal.iterator-loop g).can_next l.iterator';
  is_finite : (goal.iterator-loop g).is_finite l.iterator';
  of : IsActorOf l.table l.owner;
}
