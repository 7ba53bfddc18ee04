use Rattle.std.proofs.Common.{◌≡◌, [], ◌∷◌, List, ap, ◌∙◌, arith, length}
use Rattle.aio_word.specs.declared.WaitRef.{WaitRef}
use Rattle.aio_callback.specs.ReadIoView.{ReadIoView}
use Rattle.circular_buffer.specs.Buffer.{Buffer, buffer}
use Rattle.read_stream.specs.declared.reads.EndedRead.{EndedRead}
use Rattle.read_stream.specs.declared.reads.Reads.{Reads}
use Rattle.read_stream.specs.StreamIos.{record_count, ios_started}
use Rattle.read_stream.proofs.ContextAdvancedLaws.{valid_context_then, context_advanced_then}
use Rattle.read_stream.proofs.QueueMovesKeepIssued.{more-free}
use Rattle.read_stream.proofs.SubmitKeepsIssued.{is-none}
use Rattle.read_stream.proofs.reads.Reads.finish.Goals as goal

pub release-requires : goal.release-requires
release-requires g c =
    let some = c.in-Some.ensures.some.1 in
    let room = c.in-Some.ensures.issued.room.free_room in
    let all = c.loop-io.invariant.records in
    omega arith

pub loop-io-preserved : goal.loop-io-preserved
loop-io-preserved g c =
    let W : Type 0 = g.row.W.Denot in
    let s : Reads W = c.take_oldest.new.self in
    let io : ReadIoView = c.in-Some.io in
    let inv = c.loop-io.invariant in
    let some = c.in-Some.ensures.some in
    let rest = c.in-Some.ensures.all in
    let records = some.1 in
    let all = inv.records in
    let is : c.release.new.self
    ≡ record s { free = buffer (io ∷ s.free.items) s.free.capacity } =
    c.release.ensures in
    let same = rest.2 in
    let was = inv.started in
    record {
      handed = valid_context_then inv.handed c.in-Some.ensures.context_advanced;
      context_advanced = context_advanced_then c.in-Some.ensures.context_advanced
          inv.context_advanced;
      issued = rw is (more-free c.args.scope.now g.W.World
          c.take_oldest.new.context.actor.now.known s io (omega arith)
          some.0.is_stream_record.room c.in-Some.ensures.issued);
      records = ap (λ (z : Reads W). record_count z) is ∙ (omega arith);
      started = ap (λ (z : Reads W). ios_started z) is ∙ (same ∙ was);
      batch = ap (λ (z : Reads W). z.batch) is ∙ (rest.1 ∙ inv.batch);
    }

pub returns-clause-context_advanced : goal.returns-clause-context_advanced
returns-clause-context_advanced g c =
    context_advanced_then c.in_default.ensures.context_advanced c.loop-io.invariant.context_advanced

pub returns-clause-ready : goal.returns-clause-ready
returns-clause-ready g c =
    let W : Type 0 = g.row.W.Denot in
    let s : Reads W = c.take_oldest.new.self in
    let o : Reads W = c.loop-io.self in
    let issued = c.in_default.ensures.issued in
    let state = c.in_default.ensures.same_state in
    let rest = c.in_default.ensures.all in
    let in_flight : s.in_flight.items ≡ [] =
    ap (λ (z : Buffer WaitRef). z.items) state.2 ∙ c.in_default.ensures.none in
    let batch : s.batch ≡ [] = rest.1 ∙ c.loop-io.invariant.batch in
    let b : length s.batch ≡ 0 = ap (λ (z : List (WaitRef × ReadIoView)). length z) batch in
    let b' : length o.batch ≡ 0 =
    ap (λ (z : List (WaitRef × ReadIoView)). length z) c.loop-io.invariant.batch in
    let f : length s.in_flight.items ≡ 0 = ap (λ (z : List WaitRef). length z) in_flight in
    let f' : length o.in_flight.items ≡ 0 =
    ap (λ (z : List WaitRef). length z) c.in_default.ensures.none in
    let e' : length o.ended.items ≡ 0 = ap (λ (z : List EndedRead). length z) state.0 in
    let free : length s.free.items ≡ length o.free.items =
    ap (λ (z : Buffer ReadIoView). length z.items) rest.0 in
    let total = c.loop-io.invariant.records in
    let same = state.1 in
    record {
      has_room = issued.room;
      free = issued.records.free;
      free_count = omega arith;
      batch = batch;
      in_flight = in_flight;
      ended = is-none s.ended.items (omega arith);
    }
