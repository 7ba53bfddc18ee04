use Rattle.std.proofs.Common.{◌∷◌}
use Rattle.aio_word.specs.declared.Known.{Known}
use Rattle.aio_word.specs.declared.WaitRef.{WaitRef}
use Rattle.aio_word.specs.Tokens.{IsInFlight}
use Rattle.aio_fixtures.proofs.UnreclaimedIos.{taken-up-unreclaimed}
use Rattle.method_tests.proofs.worker.reads.submit_by_method.Goals as goal

pub returns-clause-submitted : goal.returns-clause-submitted
returns-clause-submitted g c =
    let q : Known = c.submit_read.new.actor.known in
    let r : Known = c.begun.new.actor.known in
    let submitted = c.in_ok-token.ensures.submitted in
    let keeps : (u : WaitRef) → IsInFlight q u → IsInFlight r u =
    λ u flies. (c.execution_keeps_tokens.ensures u _ q r _ _ _ _
    c.begun.ensures.marks).in_flight flies in
    record {
      token = keeps c.in_ok-token.token submitted.token;
      others_in_flight = λ u flies. let other = submitted.others_in_flight u flies in (other.0, keeps u other.1);
      unreclaimed = λ ts o. taken-up-unreclaimed (c.in_ok-token.token ∷ ts) q r
          _ _ _ _ c.begun.ensures.marks (submitted.unreclaimed ts o);
    }
