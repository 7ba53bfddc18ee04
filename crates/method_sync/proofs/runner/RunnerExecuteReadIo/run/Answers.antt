use Rattle.std.proofs.Common.{rules, ◌≡◌, sym, ap, ◌∙◌}
use Rattle.aio_word.specs.declared.WaitRef.{WaitRef}
use Rattle.aio_word.specs.declared.Known.{Known}
use Rattle.aio_callback.specs.ReadIoView.{ReadIoView, record_aim, with_pages}
use Rattle.aio_callback.proofs.FirstPagesRead.{aim_stays, answered_by}
use Rattle.method_sync.proofs.RunnerExecutes.{executed-as, takes-executed}
use Rattle.method_sync.proofs.runner.RunnerExecuteReadIo.run.Goals as goal

pub complete_shared-requires-clause-answered : goal.complete_shared-requires-clause-answered
complete_shared-requires-clause-answered g c = search (rules, answered_by)

pub returns-clause-executed : goal.returns-clause-executed
returns-clause-executed g c =
    let t : WaitRef × ReadIoView = c.in-Some.claimed in
    let r : ReadIoView = c.complete_shared.new.self in
    let m : Known = c.complete_io.new.actor.known in
    let same : r.label.ended ≡ c.class.result = search rules in
    let kept : c.record_mut-3.result.now ≡ c.answer.new.self = search rules in
    let read : c.record_mut-2.result.now ≡ with_pages t.1 c.read.new.pages = search rules in
    let aimed : record_aim r ≡ record_aim t.1 = c.complete_shared.ensures.aim
    ∙ (ap (λ z. record_aim z) kept
    ∙ (ap (λ z. record_aim z) c.answer.ensures ∙ (ap (λ z. record_aim z) read
    ∙ aim_stays t.1 c.read.new.pages))) in
    let given = sym c.take.ensures.value ∙ c.in-Some.is in
    let p : Known = c.args.actor.now.known in
    rw given (executed-as g.W.World.told t.0 (record_aim t.1) p m _ c.class.result r _ _ _ _
    (search rules) (search rules) same aimed (search rules)
    c.complete_shared.ensures.completed c.complete_shared.ensures.finished (search rules))

pub returns-clause-marks : goal.returns-clause-marks
returns-clause-marks g c =
    let t : WaitRef × ReadIoView = c.in-Some.claimed in
    let given = sym c.take.ensures.value ∙ c.in-Some.is in
    let all = returns-clause-executed g c in
    let done = rw given at all in
    rw given (takes-executed g.W.World.told t.0 (record_aim t.1) c.args.actor.now.known _ _ _ _ _ _
    _
    done (search rules) (search rules))
