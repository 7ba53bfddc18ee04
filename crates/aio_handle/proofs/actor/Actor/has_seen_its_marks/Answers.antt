use Rattle.std.proofs.Common.{subst}
use Rattle.aio_word.specs.Stands.{seen_rank}
use Rattle.aio_word.specs.Tokens.{MarksOnceAndSeen}
use Rattle.aio_handle.specs.ContractViews.{ActorView}
use Rattle.aio_handle.proofs.actor.Actor.has_seen_its_marks.Goals as goal

pub returns : goal.returns
returns g c = subst
    (λ (z : ActorView). MarksOnceAndSeen
    (seen_rank z.known) z.known.marks) c.self.view_is c.self.invariant.0.marks_once
