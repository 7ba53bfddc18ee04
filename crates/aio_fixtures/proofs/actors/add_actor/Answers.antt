use Rattle.aio_fixtures.proofs.ActorLists.{one-more-actor}
use Rattle.aio_fixtures.proofs.actors.add_actor.Goals as goal

pub returns-clause-all : goal.returns-clause-all
returns-clause-all g c =
    one-more-actor c.args.table.now c.args.actors.now.items c.push.new.self.items c.args.actor
    c.in_ok-push.ensures.items c.requires.others c.requires.table c.requires.no_owner_tokens
