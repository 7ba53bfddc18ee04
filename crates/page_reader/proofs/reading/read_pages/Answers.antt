use Rattle.std.proofs.Common.{◌∙◌, sym, ap, subst, arith, length}
use Rattle.aio_word.specs.Events.{lives_ended}
use Rattle.stream_answer.specs.StreamAnswers.{stream_entries}
use Rattle.read_stream.specs.Desks.{IsFreeDesk, desk_settings}
use Rattle.read_stream.specs.FailedReads.{MayBeUnread}
use Rattle.read_stream.specs.StreamViews.{StreamView}
use Rattle.read_stream.proofs.ActorAdvancedLaws.{advanced_then}
use Rattle.read_stream.proofs.UnreadCauses.{may_later}
use Rattle.page_reader.specs.PagesTaken.{PagesTakenWhere}
use Rattle.page_reader.proofs.UnreadBlocks.{taken_wider}
use Rattle.page_reader.proofs.reading.read_pages.Goals as goal

pub returns-clause-same : goal.returns-clause-same
returns-clause-same g c =
    let a = c.take_all-ended.ensures.advanced.same in
    let b = c.close-desk.ensures.advanced.same in
    (b.0 ∙ a.0, b.1 ∙ a.1, b.2 ∙ a.2)

pub returns-clause-told : goal.returns-clause-told
returns-clause-told g c =
    let a = c.take_all-ended.ensures.advanced.told in
    let b = c.close-desk.ensures.advanced.told in
    (b.0 ∙ a.0, b.1 ∙ a.1)

pub returns-clause-advanced : goal.returns-clause-advanced
returns-clause-advanced g c =
    advanced_then _ _ _ _ _ _ _ _ _ c.take_all-ended.ensures.advanced.actor_advanced
    c.close-desk.ensures.advanced.actor_advanced

pub returns-clause-desk : goal.returns-clause-desk
returns-clause-desk g c =
    let later = c.take_all-ended.ensures.stream in
    let opened = c.open-stream.ensures.stream in
    let name = c.close-desk.ensures.desk.0 ∙ (ap (λ (z : StreamView (Unit {0})). z.desk) later
    ∙ ap (λ (z : StreamView (Unit {0})). z.desk) opened) in
    let settings = c.close-desk.ensures.desk.2
    ∙ (ap (λ (z : StreamView (Unit {0})). z.settings) later
    ∙ ap (λ (z : StreamView (Unit {0})). z.settings) opened) in
    let same = c.desk-1.given.1 (sym name) ∙ c.end_borrow.ensures in (
      subst (λ d. IsFreeDesk d) (sym same) c.close-desk.ensures.desk.1,
      ap desk_settings same ∙ settings,
    )

pub returns-clause-taken : goal.returns-clause-taken
returns-clause-taken g c =
    let late = c.take_all-ended.new.actor.known in
    let holds = g.C.PageConsumer.holds c.take_all-ended.new.consumer in
    let ended = c.take_all-ended.result in
    let here = subst (λ (z : StreamView (Unit {0})). PagesTakenWhere (MayBeUnread z.actor_was late)
    holds z.settings.rules g.W.World.told (stream_entries z.relation z.blocks) ended)
    c.open-stream.ensures.stream c.take_all-ended.ensures.taken in
    taken_wider _ _ (may_later _ _ _ _ _ _ _ c.close-desk.ensures.advanced.actor_advanced) holds _
    _ _ ended here

pub returns-clause-lives_bound : goal.returns-clause-lives_bound
returns-clause-lives_bound g c h =
    let later = c.take_all-ended.ensures.stream in
    let opened = c.open-stream.ensures.stream in
    let long = ap (λ (z : StreamView (Unit {0})). length z.blocks) later
    ∙ ap (λ (z : StreamView (Unit {0})). length z.blocks) opened in
    let marks = ap (λ (z : StreamView (Unit {0})). lives_ended h z.actor_was.known.marks) later
    ∙ ap (λ (z : StreamView (Unit {0})). lives_ended h z.actor_was.known.marks) opened in
    let few = c.close-desk.ensures.few in
    let lived = c.close-desk.ensures.lives_bound h in
    omega arith
