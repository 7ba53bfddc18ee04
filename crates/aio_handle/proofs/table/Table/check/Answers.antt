use Rattle.std.proofs.Common.{rules, ◌≡◌, sym, ap, ◌∙◌, subst}
use Rattle.aio_word.specs.declared.Known.{Known}
use Rattle.aio_word.specs.declared.Word.{Word}
use Rattle.aio_word.proofs.PackIsInjective.{packed_word-injective}
use Rattle.aio_handle.specs.Seats.{seat_known}
use Rattle.aio_handle.specs.CallEvents.{WordLoaded}
use Rattle.aio_handle.proofs.ClaimerSteps.{load-is-allowed}
use Rattle.aio_handle.proofs.CallSteps.{looks-saw}
use Rattle.aio_handle.proofs.CacheAfterCalls.{seat-after-load}
use Rattle.aio_handle.proofs.CallAnswers.{check-answers}
use Rattle.aio_handle.proofs.table.Table.check.Goals as goal

pub load-number-requires : goal.load-number-requires
load-number-requires g c = load-is-allowed _ c.actor.invariant.0.one
    c.self.invariant.0 c.self.invariant.1 c.self.invariant.3 c.requires.range
    (ap (λ x. x.table) c.actor.view_is ∙
    (c.requires.table.0 ∙ sym (ap (λ x. x.table) c.self.view_is)))

pub invariant_of-actor : goal.invariant_of-actor
invariant_of-actor g c = seat-after-load c.actor.invariant c.load-number.ensures.2

pub returns-clause-look : goal.returns-clause-look
returns-clause-look g c =
    let (w, found, lk) =
    looks-saw c.load-number.ensures.2 in
    let same : w ≡ c.in-Ok.word = packed_word-injective w c.in-Ok.word
    (found ∙ sym c.in-Ok.ensures.ok.1) in
    let look : WordLoaded c.args.reference.handle c.in-Ok.word c.args.actor.now.known
    (seat_known c.load-number.new.seat.me.0) = subst
    (λ (z : Known). WordLoaded c.args.reference.handle c.in-Ok.word z
    (seat_known c.load-number.new.seat.me.0)) (ap (λ x. x.known) c.actor.view_is)
    (subst (λ (z : Word). WordLoaded c.args.reference.handle z (seat_known c.actor.inside.seat.me.0)
    (seat_known c.load-number.new.seat.me.0)) same lk) in
    check-answers _ _ c.args.reference _ c.in-Ok.word look (search rules)
