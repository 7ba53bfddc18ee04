use Rattle.std.proofs.Common.{rules, ◌≡◌, [], ◌∷◌, sym, ◌∙◌, subst, arith, Option}
use Rattle.std.specs.Prelude.{IfSome}
use Rattle.aio_word.specs.declared.WaitRef.{WaitRef}
use Rattle.aio_word.specs.declared.Known.{Known}
use Rattle.aio_word.specs.declared.Kind.TheVariants as kind
use Rattle.aio_word.specs.Tokens.{make_mark}
use Rattle.aio_handle.specs.Execution.{ExecutesAll}
use Rattle.aio_callback.specs.ReadIoView.{ReadIoView, HasAnswer}
use Rattle.read_fixtures.proofs.WholeReads.{answered-untold, whole-class, ended-whole}
use Rattle.read_fixtures.proofs.executor.WholeExecutorExecuteReadIo.run.Goals as goal

pub complete_shared-requires-clause-answered : goal.complete_shared-requires-clause-answered
complete_shared-requires-clause-answered g c =
    let kept : c.record_mut-2.result.now ≡ c.answer.new.self = search rules in
    subst (λ (z : ReadIoView). HasAnswer g.W.World.told z) (sym kept)
    (answered-untold g.W.World.told c.record_mut.result.now c.answer.new.self _ c.requires.told.0
    c.answer.ensures (search rules))

pub returns-clause-marks : goal.returns-clause-marks
returns-clause-marks g c =
    let t : WaitRef × ReadIoView = c.in-Some.claimed in
    let r : ReadIoView = c.complete_shared.new.self in
    let m : Known = c.complete_io.new.actor.known in
    let q : Known = c.complete_shared-2.new.actor.known in
    let same : r.label.ended ≡ c.class.result = search rules in
    subst (λ (o : Option (WaitRef × ReadIoView)). IfSome o
    (λ x. ExecutesAll (make_mark x.0 kind.Claimed ∷ [])
    c.args.actor.now.known q c.args.self.now.calls c.saturating_add-self.result 0 0))
    (sym (sym c.take.ensures.value ∙ c.in-Some.is))
    (ended-whole t.0 c.args.actor.now.known m q c.class.result r.label.ended _ _ (search rules)
    (search rules)
    same (c.class.ensures ∙ whole-class _) (λ below. let e =
    c.saturating_add-self.ensures in omega arith))
