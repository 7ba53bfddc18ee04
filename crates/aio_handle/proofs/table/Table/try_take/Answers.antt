use Rattle.std.proofs.Common.{◌≡◌, ℕ, ◌<◌, List, [], ◌∷◌, sym, ap, ◌∙◌, subst}
use Rattle.atomic_table.specs.Table.{rest}
use Rattle.aio_word.specs.declared.WaitRef.{WaitRef}
use Rattle.aio_word.specs.declared.Known.{Known}
use Rattle.aio_word.specs.Events.{handle_count}
use Rattle.aio_word.specs.Stands.{IsIn}
use Rattle.aio_word.specs.Tokens.{IsInFlight}
use Rattle.aio_handle.specs.Seats.{IsSeated, seat_known}
use Rattle.aio_handle.specs.ContractViews.{IsConfig}
use Rattle.aio_word.specs.declared.Word.{Word}
use Rattle.aio_handle.specs.CallEvents.{WordLoaded, IsCompleted, TakesResult}
use Rattle.aio_handle.proofs.SoleActorLife.{whole-life}
use Rattle.aio_handle.specs.CallEvents.{HasWholeLife}
use Rattle.aio_handle.specs.LifeWords.{completed_word, taken_word}
use Rattle.aio_handle.specs.declared.record.Label.{Label}
use Rattle.aio_word.specs.declared.Class.{Class}
use Rattle.aio_word.specs.declared.Step.TheVariants as event
use Rattle.aio_handle.proofs.TokensAfterEvent.{begun-of}
use Rattle.aio_word.specs.Events.{actor_count}
use Rattle.aio_word.specs.declared.Config.{Config}
use Rattle.aio_handle.proofs.CallAnswers.{not-both, inside-from-view, flight-loaded}
use Rattle.aio_handle.proofs.CallAnswers.{ResultTaken, note-looked}
use Rattle.aio_handle.proofs.ClaimerSteps.{load-is-allowed}
use Rattle.aio_handle.proofs.OwnerSteps.{take-is-allowed}
use Rattle.aio_handle.proofs.TokensAfterEvent.{local-token}
use Rattle.aio_handle.proofs.CallSteps.{looks-seated, got-first, got-seated, got-told}
use Rattle.aio_handle.proofs.CacheAfterCalls.{seat-after-load, caches-taken-result}
use Rattle.aio_handle.specs.OwnHandleCache.{CachesOwnHandles}
use Rattle.aio_handle.proofs.table.Table.try_take.Goals as goal
use Rattle.aio_handle.proofs.table.Table.try_take.Given.{Over}

pub load-found-requires : goal.load-found-requires
load-found-requires g c = load-is-allowed _ c.actor.invariant.0.one
    c.self.invariant.0 c.self.invariant.1 c.self.invariant.3 c.token.invariant.handle
    (ap (λ x. x.table) c.actor.view_is ∙
    (c.requires.table.0 ∙ sym (ap (λ x. x.table) c.self.view_is)))

pub invariant_of-actor : goal.invariant_of-actor
invariant_of-actor g c = seat-after-load c.actor.invariant c.load-found.ensures.2

pub fetch_add-requires : goal.fetch_add-requires
fetch_add-requires g c =
    let h : ℕ = c.token.inside.reference.handle in
    let range : h < handle_count c.self.inside.config = subst (λ (z : ℕ). h < z)
    (sym c.self.invariant.3) c.token.invariant.handle in
    let t = inside-from-view IsInFlight (ap (λ x. x.known) c.actor.view_is)
    c.token.view_is c.requires.token in
    let (lk, flight, saw) =
    flight-loaded c.token.inside.reference c.in-Ok.word c.load-found.ensures.2
    c.in-Ok.ensures.ok.1 t in
    let sit = looks-seated c.actor.invariant.0 c.load-found.ensures.2 in (
      c.load-found.ensures.0 ∙
          (ap (λ x. x.table) c.actor.view_is ∙
          (c.requires.table.0 ∙ sym (ap (λ x. x.table) c.self.view_is))),
      subst (λ (z : ℕ). h < z) (sym c.self.invariant.1) range,
      take-is-allowed _ sit.one
          (subst (λ z. h < handle_count z) (sym c.self.invariant.0) range) flight
          (saw (c.is_completed.ensures.0 c.if-not-is_completed.false)),
    )

pub exchange-requires : goal.exchange-requires
exchange-requires g c = (
  c.fetch_add.ensures.0 ∙
      (c.load-found.ensures.0 ∙
      (ap (λ x. x.table) c.actor.view_is ∙
      (c.requires.table.0 ∙ sym (ap (λ x. x.table) c.self.view_is)))),
  got-first c.fetch_add.ensures.2,
)

-- the seat after the load, and what the actor then remembers
waits : (g : Over) (c : goal.In-Some g)
    → IsSeated c.actor.inside.config c.actor.inside.number c.load-found.new.seat.me
    × IsConfig c.actor.inside.config
    × CachesOwnHandles c.actor.inside.config c.actor.inside.own.items c.actor.inside.turn
    c.actor.inside.is_out c.actor.inside.claims (seat_known c.load-found.new.seat.me.0)
waits g c = seat-after-load c.actor.invariant c.load-found.ensures.2

took : (g : Over) (c : goal.In-Some g)
    → ResultTaken g.R.Record.label g.R.Record.aim
    (g.R.Record.fits g.W.World.told g.W.World.relations)
    c.token.inside.reference c.in-Ok.word c.in-Some.io (seat_known c.actor.inside.seat.me.0)
    (seat_known c.load-found.new.seat.me.0) (seat_known c.exchange.new.seat.me.0)
took g c =
    let t = inside-from-view IsInFlight (ap (λ x. x.known) c.actor.view_is)
    c.token.view_is c.requires.token in
    let (lk, flight, saw) =
    flight-loaded c.token.inside.reference c.in-Ok.word c.load-found.ensures.2
    c.in-Ok.ensures.ok.1 t in
    let done : IsCompleted c.in-Ok.word c.token.inside.reference.generation =
    c.is_completed.ensures.0 c.if-not-is_completed.false in
    let told = got-told c.fetch_add.ensures.2 c.token.inside.reference.generation flight (saw done)
    (c.exchange.ensures.2 ∙ ap
    (λ z. (c.token.inside.reference.handle, z) ∷ rest c.fetch_add.new.seat.me.1) c.in-Some.is)
    (ap (λ x. x.0) c.exchange.ensures.3) in record {
      word_load = lk;
      done = done;
      class = told.0;
      event_made = told.1;
      label_is = told.2;
      aimed = told.3;
      fits = told.4;
    }

pub invariant_of-actor-2 : goal.invariant_of-actor-2
invariant_of-actor-2 g c = (
  got-seated c.fetch_add.ensures.2 c.exchange.ensures.3 (waits g c).0,
  c.actor.invariant.1,
  caches-taken-result c.fetch_add.ensures.2 (ap (λ x. x.0) c.exchange.ensures.3) (waits g c).2,
)

pub returns-clause-ready : goal.returns-clause-ready
returns-clause-ready g c =
    let mid : Known = seat_known c.load-found.new.seat.me.0 in
    let q : Known = seat_known c.exchange.new.seat.me.0 in
    let h : ℕ = c.token.inside.reference.handle in
    let n : ℕ = c.token.inside.reference.generation in
    let t = took g c in (
      c.token.view_is,
      local-token (waits g c).0.marks_once t.event_made,
      subst (λ (z : WaitRef × Known). TakesResult z.0 z.1 q (g.R.Record.label c.in-Some.io))
          (λ k. (c.token.view_is k, (c.actor.view_is k).known)) record {
            between = mid;
            found = c.in-Ok.word;
            class = t.class;
            word_load = t.word_load;
            completed = t.done;
            event_made = t.event_made;
            ended = (begun-of event.Local h (completed_word t.class n)
                (taken_word t.class n) [] mid q
                t.event_made).lawful.class;
            label = t.label_is;
          },
    )

pub returns-clause-record : goal.returns-clause-record
returns-clause-record g c = let t = took g c in (
  t.fits,
  subst (λ (z : WaitRef × Known). (aim : List ℕ) → IsIn (z.0, aim) z.1.aims
      → g.R.Record.aim c.in-Some.io ≡ aim) (λ k. (c.token.view_is k, (c.actor.view_is k).known))
      (λ aim i. t.aimed aim
      (note-looked c.token.inside.reference.handle c.in-Ok.word
      (seat_known c.actor.inside.seat.me.0) (seat_known c.load-found.new.seat.me.0)
      (c.token.inside.reference, aim) t.word_load i)),
)

pub returns-clause-sole_actor : goal.returns-clause-sole_actor
returns-clause-sole_actor g c =
    let sit = (waits g c).0 in
    let t = took g c in
    let same-config = (sym c.actor.invariant.0.config ∙ ap (λ x. x.known.config) c.actor.view_is) ∙
    (c.requires.table.1 ∙ sym (ap (λ x. x.config) c.self.view_is)) in
    let range = subst (λ z. c.token.inside.reference.handle < handle_count z) (sym same-config)
    (subst (λ (z : ℕ). c.token.inside.reference.handle < z)
    (sym c.self.invariant.3) c.token.invariant.handle) in
    λ one. subst (λ (z : Class). HasWholeLife c.token.inside.reference z
    (seat_known c.exchange.new.seat.me.0)) (sym (ap (λ (l : Label). l.ended) t.label_is))
    (whole-life c.actor.inside.config (seat_known c.load-found.new.seat.me.0)
    (seat_known c.exchange.new.seat.me.0) c.token.inside.reference.handle t.class
    c.token.inside.reference.generation [] sit.marks_once sit.config range t.event_made
    (subst (λ (z : Config). actor_count z ≡ 1) (sym
    ((sym c.actor.invariant.0.config ∙ ap (λ x. x.known.config) c.actor.view_is)
    ∙ c.requires.table.1)) one))

pub returns-then-not-is_completed-clause-not_yet : goal.returns-then-not-is_completed-clause-not_yet
returns-then-not-is_completed-clause-not_yet g c =
    let mid : Known = seat_known c.load-found.new.seat.me.0 in
    let t = inside-from-view IsInFlight (ap (λ x. x.known) c.actor.view_is)
    c.token.view_is c.requires.token in
    let (lk, flight, saw) =
    flight-loaded c.token.inside.reference c.in-Ok.word c.load-found.ensures.2
    c.in-Ok.ensures.ok.1 t in
    let early : IsCompleted c.in-Ok.word c.token.inside.reference.generation → ⊥ =
    λ d. not-both c.is_completed.result
    (c.is_completed.ensures.1 d) c.if-not-is_completed.true in (
      c.token.view_is,
      flight,
      subst (λ (z : WaitRef × Known). (x : Word) × WordLoaded z.0.handle x z.1 mid
          × (IsCompleted x z.0.generation → ⊥))
          (λ k. (c.token.view_is k, (c.actor.view_is k).known)) (c.in-Ok.word, lk, early),
    )
