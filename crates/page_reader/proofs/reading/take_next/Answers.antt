use Rattle.std.proofs.Common.{◌≡◌, ◌<◌, ◌+◌, List, sym, subst, length}
use Rattle.std.specs.Prelude.{IfNone}
use Rattle.page_check.specs.SynchronousAnswer.{IsValidUnlessDamaged, Given}
use Rattle.read_stream.specs.FailedReads.{MayBeUnread}
use Rattle.read_stream.specs.StreamState.{stream_view}
use Rattle.read_stream.specs.StreamViews.{StreamView, answer_of}
use Rattle.read_stream.proofs.CallersView.{later_by_call}
use Rattle.page_reader.specs.PagesTaken.{TakenSoFar}
use Rattle.page_reader.proofs.PagesInOrder.{has_room, moves, taken_last, taken_more}
use Rattle.page_reader.proofs.PagesInOrder.{whatever_relation}
use Rattle.page_reader.proofs.reading.take_next.Goals as goal

pub take_answer-requires-clause-valid : goal.take_answer-requires-clause-valid
take_answer-requires-clause-valid g c =
    let s : StreamView (Unit {0}) = stream_view g.S.BlockSource.left c.args.stream.now in
    whatever_relation IsValidUnlessDamaged c.next-answer.result s.relation
    c.next-answer.ensures.answer.valid

pub take_answer-requires-clause-room : goal.take_answer-requires-clause-room
take_answer-requires-clause-room g c =
    let s : StreamView (Unit {0}) = stream_view g.S.BlockSource.left c.args.stream.now in
    let holds = g.C.PageConsumer.holds c.args.consumer.now in
    let most = g.C.PageConsumer.most c.args.consumer.now in
    whatever_relation (λ _ _. (pages : List (Given (Unit {0}))) × holds pages × (length pages < most))
    c.next-answer.result s.relation
    (has_room holds g.W.World.told s most (answer_of s c.next-answer.result) c.requires.few
    c.requires.taken c.next-answer.ensures.answer.within)

pub returns-clause-stream : goal.returns-clause-stream
returns-clause-stream g c =
    let s : StreamView (Unit {0}) = stream_view g.S.BlockSource.left c.args.stream.now in
    later_by_call s _ c.next-answer.new.actor (answer_of s c.next-answer.result)
    c.next-answer.follows.holds-at-none.view

pub returns-clause-more : goal.returns-clause-more
returns-clause-more g c =
    let s : StreamView (Unit {0}) = stream_view g.S.BlockSource.left c.args.stream.now in
    let now = c.next-answer.new.actor in
    let holds = g.C.PageConsumer.holds c.take_answer.new.consumer in
    subst (λ (v : StreamView (Unit {0})). IfNone c.take_answer.result
    (TakenSoFar holds g.W.World.told v)) (sym c.next-answer.follows.holds-at-none.view)
    (taken_more (g.C.PageConsumer.holds c.args.consumer.now) holds g.W.World.told s
    (MayBeUnread s.actor_was now.known) c.requires.taken now (answer_of s c.next-answer.result)
    c.take_answer.result c.next-answer.ensures.answer.next (c.take_answer.ensures.taken s.relation))

pub returns-clause-moves : goal.returns-clause-moves
returns-clause-moves g c =
    let s : StreamView (Unit {0}) = stream_view g.S.BlockSource.left c.args.stream.now in
    let now = c.next-answer.new.actor in
    subst (λ (v : StreamView (Unit {0})). IfNone c.take_answer.result
    ((v.given ≡ s.given + 1) × (s.given < length s.blocks)))
    (sym c.next-answer.follows.holds-at-none.view)
    (moves (g.C.PageConsumer.holds c.args.consumer.now)
    (g.C.PageConsumer.holds c.take_answer.new.consumer) s now (answer_of s c.next-answer.result)
    c.take_answer.result c.next-answer.ensures.answer.within
    (c.take_answer.ensures.taken s.relation))

pub returns-clause-ended : goal.returns-clause-ended
returns-clause-ended g c =
    let s : StreamView (Unit {0}) = stream_view g.S.BlockSource.left c.args.stream.now in
    let now = c.next-answer.new.actor in
    taken_last (g.C.PageConsumer.holds c.args.consumer.now)
    (g.C.PageConsumer.holds c.take_answer.new.consumer) g.W.World.told s
    (MayBeUnread s.actor_was now.known) c.requires.taken (answer_of s c.next-answer.result)
    c.take_answer.result c.next-answer.ensures.answer.next (c.take_answer.ensures.taken s.relation)
