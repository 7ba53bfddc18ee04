use Rattle.std.proofs.Common.{rules, refl, ◌∙◌, arith}
use Rattle.std.proofs.lemmas.List.{length-map}
use Rattle.stream_answer.specs.StreamAnswers.{stream_entry, synchronous_answer, stream_entries}
use Rattle.read_stream.specs.FailedReads.{MayBeUnread}
use Rattle.read_stream.specs.StreamState.{stream_view}
use Rattle.read_stream.specs.StreamViews.{StreamView, answer_of}
use Rattle.read_stream.proofs.CallersView.{later_by_call, same_stream_later}
use Rattle.read_stream.proofs.ContextAdvancedLaws.{call_nothing, call_then}
use Rattle.scan_rounds.proofs.StreamCalls.{at_place}
use Rattle.scan_jobs.proofs.ConsumerProgress.{nearer, next_room, nothing_yet, taken_end}
use Rattle.scan_rounds.proofs.StreamCalls.{given_by_call}
use Rattle.scan_jobs.proofs.ConsumerProgress.{taken_more}
use Rattle.scan_rounds.proofs.reading.take_all.Goals as goal

pub loop-ending-init : goal.loop-ending-init
loop-ending-init g c = record {
  of = search rules;
  told = c.requires.told;
  advanced = call_nothing _ _ _;
  is_open = c.requires.is_open;
  stream = refl;
  most = refl;
  kept = refl;
  so_far = nothing_yet _ _ _ _ _ c.requires.none c.requires.held;
}

pub take-requires-clause-valid : goal.take-requires-clause-valid
take-requires-clause-valid g c =
    let left = g.S.BlockSource.left in
    (at_place (stream_view left c.args.stream.now) (stream_view left c.loop-ending.stream) _ _ _ _
    c.loop-ending.invariant.stream c.requires.relation c.next-answer.ensures.answer).valid

pub take-requires-clause-room : goal.take-requires-clause-room
take-requires-clause-room g c =
    let left = g.S.BlockSource.left in
    let i = c.loop-ending.invariant in
    let s : StreamView (Unit {0}) = stream_view left c.args.stream.now in
    let t : StreamView (Unit {0}) = stream_view left c.loop-ending.stream in
    let many = length-map s.blocks (stream_entry c.args.relation) in
    let few = c.requires.few in
    let most = i.most in
    next_room _ s.settings.rules g.W.World.told
    (MayBeUnread s.actor_was c.next-answer.new.actor.known)
    (stream_entries c.args.relation s.blocks) t.given _
    (synchronous_answer c.args.relation c.next-answer.result) (omega arith) i.so_far
    (at_place s t _ _ _ _ i.stream c.requires.relation c.next-answer.ensures.answer).next

pub loop-ending-preserved : goal.loop-ending-preserved
loop-ending-preserved g c =
    let left = g.S.BlockSource.left in
    let f = c.next-answer.follows.holds-at-none in
    let i = c.loop-ending.invariant in
    let s : StreamView (Unit {0}) = stream_view left c.args.stream.now in
    let t : StreamView (Unit {0}) = stream_view left c.loop-ending.stream in
    let same = c.next-answer.ensures.advanced.same in
    let told = c.next-answer.ensures.advanced.told in
    let here = at_place s t _ _ _ _ i.stream c.requires.relation c.next-answer.ensures.answer in
    record {
      of = (same.0 ∙ i.of.0, same.1 ∙ i.of.1);
      told = (told.0 ∙ i.told.0, told.1 ∙ i.told.1);
      advanced = call_then i.advanced c.next-answer.ensures.advanced;
      is_open = f.open_for;
      stream = same_stream_later s t _ i.stream (later_by_call t _ c.next-answer.new.actor
          (answer_of t c.next-answer.result) f.view);
      most = c.take.ensures.most ∙ i.most;
      kept = c.take.ensures.kept ∙ i.kept;
      so_far = taken_more _ _ _ _ _ _ _ _ _ _ i.so_far here.next here.marked c.take.ensures.takes
          c.in_default.is (given_by_call s t _ _ c.args.relation c.next-answer.result i.stream
          c.requires.relation f.view);
    }

pub loop-ending-smaller : goal.loop-ending-smaller
loop-ending-smaller g c =
    let left = g.S.BlockSource.left in
    let f = c.next-answer.follows.holds-at-none in
    let i = c.loop-ending.invariant in
    let s : StreamView (Unit {0}) = stream_view left c.args.stream.now in
    let t : StreamView (Unit {0}) = stream_view left c.loop-ending.stream in
    let near = nearer (g.C.Consumer.holds c.loop-ending.consumer)
    (g.C.Consumer.holds c.take.new.self) _ _ _ _ _ _ _ _
    (at_place s t _ _ _ _ i.stream c.requires.relation c.next-answer.ensures.answer).next
    c.take.ensures.takes c.in_default.is
    (given_by_call s t _ _ c.args.relation c.next-answer.result i.stream c.requires.relation
    f.view) in
    omega arith

pub returns-in-Some-clause-advanced : goal.returns-in-Some-clause-advanced
returns-in-Some-clause-advanced g c =
    call_then c.loop-ending.invariant.advanced c.next-answer.ensures.advanced

pub returns-in-Some-clause-given : goal.returns-in-Some-clause-given
returns-in-Some-clause-given g c =
    let left = g.S.BlockSource.left in
    let i = c.loop-ending.invariant in
    taken_end _ _ _ _ _ _ _ _ _ _ i.so_far
    (at_place (stream_view left c.args.stream.now) (stream_view left c.loop-ending.stream) _ _ _ _
    i.stream c.requires.relation c.next-answer.ensures.answer).next
    c.take.ensures.takes c.in-Some.is

pub returns-in-Some-clause-stream : goal.returns-in-Some-clause-stream
returns-in-Some-clause-stream g c =
    let left = g.S.BlockSource.left in
    let t : StreamView (Unit {0}) = stream_view left c.loop-ending.stream in
    same_stream_later (stream_view left c.args.stream.now) t _ c.loop-ending.invariant.stream
    (later_by_call t _ c.next-answer.new.actor (answer_of t c.next-answer.result)
    c.next-answer.follows.holds-at-none.view)

pub returns-in-Some-clause-kept : goal.returns-in-Some-clause-kept
returns-in-Some-clause-kept g c = c.take.ensures.kept ∙ c.loop-ending.invariant.kept
