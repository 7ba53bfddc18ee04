use Rattle.std.proofs.Common.{◌≡◌, ◌∷◌, sym, ◌∙◌, subst}
use Rattle.aio_word.specs.declared.Known.{Known}
use Rattle.aio_word.specs.declared.WaitRef.{WaitRef}
use Rattle.aio_word.specs.declared.Step.TheVariants as event
use Rattle.aio_fixtures.specs.Lives.{HasUnreclaimed}
use Rattle.aio_fixtures.proofs.UnreclaimedIos.{submitted-unreclaimed}
use Rattle.aio_fixtures.proofs.owner.submit_io.Goals as goal

pub returns-in-Ok-clause-submitted : goal.returns-in-Ok-clause-submitted
returns-in-Ok-clause-submitted g c =
    let p : Known = c.args.actor.now.known in
    let q : Known = c.acquire.new.actor.known in
    let r : Known = c.submit_acquired.new.actor.known in
    record {
      token = c.submit_acquired.ensures.token.1;
      others_in_flight = λ u flies. c.submit_acquired.ensures.others_in_flight u
          ((c.events_keep_other_tokens.ensures.unused u event.HandOut _ _ _ _ p q
          c.in-Ok.ensures.event (λ x. x)).in_flight flies);
      unreclaimed = λ ts o. subst (λ (x : WaitRef). HasUnreclaimed (x ∷ ts) r)
          (sym c.submit_acquired.ensures.token.0)
          (submitted-unreclaimed c.in-Ok.token ts _ _ _ p q r c.in-Ok.ensures.event
          c.submit_acquired.ensures.begins c.submit_acquired.ensures.out o);
    }
