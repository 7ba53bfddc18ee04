use Rattle.std.proofs.Common.{arith}
use Rattle.aio_word.specs.declared.Step.TheVariants as event
use Rattle.aio_fixtures.proofs.Lives.{amid, amid-then}
use Rattle.aio_fixtures.proofs.claimer.complete_as.Goals as goal

pub returns-clause-lives : goal.returns-clause-lives
returns-clause-lives g c =
    amid-then c.args.actor.now.known c.complete_io.new.actor.known c.complete_shared.new.actor.known
    (amid (event.Io _) _ _ _ _ _ _ c.complete_io.ensures.event (omega arith) (omega arith))
    (amid event.Shared _ _ _ _ _ _ c.complete_shared.ensures.event (omega arith) (omega arith))
