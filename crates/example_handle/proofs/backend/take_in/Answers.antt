use Rattle.std.proofs.Common.{◌≡◌, ◌≢◌, ℕ, ◌*◌, List, [], ◌∷◌, get_or, sym, ap, ◌∙◌}
use Rattle.std.proofs.Common.{subst}
use Rattle.aio_word.specs.declared.WaitRef.{WaitRef}
use Rattle.aio_word.specs.declared.Known.{Known}
use Rattle.aio_word.specs.declared.Class.{Class}
use Rattle.aio_word.specs.declared.Class.TheVariants.{Unended}
use Rattle.aio_word.specs.declared.Step.TheVariants as event
use Rattle.aio_handle.specs.declared.record.Label.{Label}
use Rattle.aio_fixtures.proofs.UnreclaimedIos.{reclaimed-unreclaimed, rests-with-none}
use Rattle.example_handle.specs.declared.note.Note.{Note}
use Rattle.example_handle.specs.ActorPair.{IsInFlightAbout}
use Rattle.example_handle.proofs.ActorsAtRest.{still-offered}
use Rattle.example_handle.proofs.backend.take_in.Goals as goal

pub returns-in-Ready-clause-idle : goal.returns-in-Ready-clause-idle
returns-in-Ready-clause-idle g c =
    let u : WaitRef = c.loop.token in
    let p : Known = c.loop.backend.known in
    let q : Known = c.try_take.new.actor.known in
    let r : Known = c.reclaim-note.new.actor.known in
    let got = c.in-Ready.ensures.ready.2 in
    let back = c.reclaim-note.ensures.event in
    let one = c.try_take.ensures.same in
    let two = c.reclaim-note.ensures.same in (
      (
        two.0 ∙ (one.0 ∙ c.loop.invariant.table.0),
        two.1 ∙ (one.1 ∙ c.loop.invariant.table.1),
      ),
      rests-with-none r (reclaimed-unreclaimed u c.in-Ready.local.0 [] back.0 _ p q r got
          c.in-Ready.ensures.ready.0 back.1 c.loop.invariant.in_flight_about.only),
    )

pub returns-in-Ready-clause-double : goal.returns-in-Ready-clause-double
returns-in-Ready-clause-double g c =
    let note : Note = c.in-Ready.local.1 in
    let got = c.in-Ready.ensures.ready.2 in
    let kept = c.in-Ready.ensures.record in
    let number : note.number ≡ 21 = ap (λ (a : List ℕ). get_or a 0 0)
    (kept.1 (21 ∷ []) c.loop.invariant.in_flight_about.aim) in
    let double : note.doubled ≡ 2 * note.number = kept.0
    (subst (λ (x : Class). x ≢ Unended) (sym (ap (λ (l : Label). l.ended) got.label)) got.ended) in
    let same : c.reclaim-note.result.doubled ≡ note.doubled =
    ap (λ (x : Note). x.doubled) c.reclaim-note.ensures.record
    ∙ ap (λ (x : Note). x.doubled) c.record_mut.ensures.value in
    same ∙ (double ∙ ap (λ (n : ℕ). 2 * n) number)

pub loop-preserved : goal.loop-preserved
loop-preserved g c =
    let t : WaitRef = c.loop.token in
    let p : Known = c.loop.backend.known in
    let q : Known = c.try_take.new.actor.known in
    let r : Known = c.rest.new.actor.known in
    let one = c.try_take.ensures.same in
    let two = c.rest.ensures.same in
    let again = c.in-NotYet.ensures.not_yet in
    record {
      can_next = tt;
      is_finite = tt;
      table = (
        two.0 ∙ (one.0 ∙ c.loop.invariant.table.0),
        two.1 ∙ (one.1 ∙ c.loop.invariant.table.1),
      );
      in_flight_about = subst (λ (x : WaitRef). IsInFlightAbout x 21 r) (sym again.0)
          (still-offered t 21 _ _ q r c.rest.ensures.look.1
          (still-offered t 21 _ _ p q again.2.1 c.loop.invariant.in_flight_about));
    }
