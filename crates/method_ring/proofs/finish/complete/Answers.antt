use Rattle.std.proofs.Common.{rules, ◌≡◌, ap, ◌∙◌, subst}
use Rattle.aio_word.specs.declared.Class.{Class}
use Rattle.aio_word.specs.declared.Known.{Known}
use Rattle.aio_word.specs.declared.WaitRef.{WaitRef}
use Rattle.read_callbacks.specs.Chain.{class_of}
use Rattle.aio_callback.specs.ReadIoView.{ReadIoView, record_aim}
use Rattle.aio_callback.specs.Finishes.{record_reference}
use Rattle.method_ring.specs.RingRunner.{ReadCompletedAs}
use Rattle.method_ring.proofs.CompletionEndsIo.{ended-as, kept-then}
use Rattle.method_ring.proofs.finish.complete.Goals as goal

pub returns-clause-read_completed : goal.returns-clause-read_completed
returns-clause-read_completed g c =
    let t : WaitRef × ReadIoView = c.args.claimed in
    let r : ReadIoView = c.complete_shared.new.self in
    let p : Known = c.args.actor.now.known in
    let m : Known = c.complete_io.new.actor.known in
    let q : Known = c.complete_shared-2.new.actor.known in
    let kept : c.record_mut.result.now ≡ t.1 =
    c.record_mut.ensures.value ∙ ap (λ z. z.1) c.complete_io.ensures.token.0 in
    let aimed : record_aim r ≡ record_aim t.1 = c.complete_shared.ensures.aim
    ∙ ap (λ z. record_aim z) kept in
    let same : r.label.ended ≡ c.class.result = search rules in
    let count : c.count-count.result ≡ t.1.count =
    c.count-count.ensures.value ∙ ap (λ z. z.count) c.record.ensures in
    let class : c.class.result ≡ class_of t.1.count c.args.raw =
    c.class.ensures ∙ ap (λ n. class_of n c.args.raw) count in
    let named : record_reference r ≡ t.0 = search rules in
    subst (λ (k : Class). ReadCompletedAs g.W.World.told t.0 (record_aim t.1) k p q
    (g.P.Places.finished c.args.places.now) (g.P.Places.finished c.complete_shared.new.places))
    class
    (ended-as g.W.World.told t.0 (record_aim t.1) c.class.result p m q r _ _
    (search rules) (search rules) same aimed named c.complete_shared.ensures.completed
    c.complete_shared.ensures.finished)

pub returns-clause-other_claims_unchanged : goal.returns-clause-other_claims_unchanged
returns-clause-other_claims_unchanged g c t ne =
    let p : Known = c.args.actor.now.known in
    let m : Known = c.complete_io.new.actor.known in
    let q : Known = c.complete_shared-2.new.actor.known in
    let law = c.events_keep_other_claims.ensures.elsewhere in
    kept-then t p m q (law t _ _ _ _ _ p m c.complete_io.ensures.event ne)
    (law t _ _ _ _ _ m q c.complete_shared-2.ensures.event
    (λ e. ne (e ∙ ap (λ z. z.0) c.complete_io.ensures.token.0)))
