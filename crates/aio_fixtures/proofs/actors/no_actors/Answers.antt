use Rattle.aio_fixtures.proofs.ActorLists.{no-actors}
use Rattle.aio_fixtures.proofs.actors.no_actors.Goals as goal

pub returns-clause-all : goal.returns-clause-all
returns-clause-all g c = no-actors c.args.table.now c.new.result.items c.new.ensures.items
