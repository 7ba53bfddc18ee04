use Rattle.std.proofs.Common.{◌≡◌, ◌<◌, ◌≤◌, [], length}
use Rattle.aio_handle.specs.ContractViews.{IsActorOf}
use Rattle.method_tests.proofs.sync.read_each.Given as goal

abbrev pub invariant-loop-first : goal.invariant-loop-first
invariant-loop-first g l = record {
  table : IsActorOf l.table l.actor;
  backend : l.actor.known.number < l.table.config.backends;
  empty : l.batch ≡ [];
  told : g.D.Disk.told l.runner.disk ≡ g.W.World.told;
  relations : g.D.Disk.relations l.runner.disk ≡ g.W.World.relations;
  room : 4 ≤ length l.io.pages;
}
