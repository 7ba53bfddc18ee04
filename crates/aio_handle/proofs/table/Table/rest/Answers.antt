use Rattle.std.proofs.Common.{sym, ap, ◌∙◌}
use Rattle.aio_handle.proofs.ClaimerSteps.{load-is-allowed}
use Rattle.aio_handle.proofs.CacheAfterCalls.{seat-after-load}
use Rattle.aio_handle.proofs.table.Table.rest.Goals as goal

pub load-found-requires : goal.load-found-requires
load-found-requires g c = load-is-allowed _ c.actor.invariant.0.one
    c.self.invariant.0 c.self.invariant.1 c.self.invariant.3 c.requires.range
    (ap (λ x. x.table) c.actor.view_is ∙
    (c.requires.table.0 ∙ sym (ap (λ x. x.table) c.self.view_is)))

pub invariant_of-actor : goal.invariant_of-actor
invariant_of-actor g c = seat-after-load c.actor.invariant c.load-found.ensures.2
