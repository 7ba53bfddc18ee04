use Rattle.aio_fixtures.proofs.UnreclaimedIos.{reclaimed-unreclaimed, reclaimed-kept}
use Rattle.read_fixtures.proofs.reads.take_and_reclaim.Goals as goal

pub returns-clause-unreclaimed : goal.returns-clause-unreclaimed
returns-clause-unreclaimed g c _ ts o =
    let back = c.reclaim.ensures.event in
    reclaimed-unreclaimed c.args.token c.in-Ready.local.0 ts back.0 _ c.args.actor.now.known
    c.try_take.new.actor.known c.reclaim.new.actor.known c.in-Ready.ensures.ready.2
    c.in-Ready.ensures.ready.0 back.1 o

pub returns-clause-others_in_flight : goal.returns-clause-others_in_flight
returns-clause-others_in_flight g c u ne flies =
    let back = c.reclaim.ensures.event in
    reclaimed-kept u c.args.token c.in-Ready.local.0 back.0 _ c.args.actor.now.known
    c.try_take.new.actor.known c.reclaim.new.actor.known c.in-Ready.ensures.ready.2
    c.in-Ready.ensures.ready.0 back.1 ne flies
