use Rattle.std.proofs.Common.{◌≡◌, List, [], ◌∷◌, ◌++◌, sym, ap, ◌∙◌, subst, arith, length}
use Rattle.std.proofs.Common.{length-append}
use Rattle.aio_word.specs.declared.WaitRef.{WaitRef}
use Rattle.aio_callback.specs.ReadIoView.{ReadIoView}
use Rattle.circular_buffer.specs.Buffer.{Buffer}
use Rattle.aio_handle.specs.ContractViews.{ActorView}
use Rattle.read_stream.specs.declared.reads.EndedRead.{EndedRead}
use Rattle.read_stream.specs.declared.reads.Reads.{Reads}
use Rattle.read_stream.specs.StreamIos.{HasIdleHandle}
use Rattle.read_stream.proofs.ReadsMatchRuns.{reads-taken-in, new_ended}
use Rattle.read_stream.proofs.QueueMovesKeepIssued.{more-ended}
use Rattle.read_stream.proofs.FreeHandleExists.{idle-at-rest}
use Rattle.read_stream.proofs.reads.Reads.take_in.Goals as goal

pub push-requires : goal.push-requires
push-requires g c =
    let a = c.in-Some.ensures.some.1 in
    let b = c.in-Some.ensures.issued.room.ended_room in
    let d = c.requires.issued.count_within in
    omega arith

pub returns-in-Some-clause-issued : goal.returns-in-Some-clause-issued
returns-in-Some-clause-issued g c =
    let a = c.in-Some.ensures.some.1 in
    let d = c.requires.issued.count_within in
    rw c.push.ensures (more-ended c.args.scope.now g.W.World
    c.settle_oldest.new.context.actor.now.known c.settle_oldest.new.self (new_ended c.in-Some.io)
    (omega arith) c.in-Some.ensures.some.0 c.in-Some.ensures.issued)

pub returns-in-Some-clause-same : goal.returns-in-Some-clause-same
returns-in-Some-clause-same g c =
    let s : Reads g.row.W.Denot = c.args.self.now in
    let t : Reads g.row.W.Denot = c.settle_oldest.new.self in
    let (free, batch, ended, started) = c.in-Some.ensures.all in
    let records = c.in-Some.ensures.some.1 in
    let items : c.push.new.queue.items ≡ s.ended.items ++ new_ended c.in-Some.io ∷ [] =
    ap (λ (z : Buffer EndedRead). z.items) c.push.ensures
    ∙ ap (λ (z : Buffer EndedRead). z.items ++ new_ended c.in-Some.io ∷ []) ended in
    let more = length-append s.ended.items (new_ended c.in-Some.io ∷ []) in
    let long : length c.push.new.queue.items
    ≡ length (s.ended.items ++ new_ended c.in-Some.io ∷ []) =
    ap (λ (z : List EndedRead). length z) items in
    let was : length t.ended.items ≡ length s.ended.items =
    ap (λ (z : Buffer EndedRead). length z.items) ended in
    let frees : length t.free.items ≡ length s.free.items =
    ap (λ (z : Buffer ReadIoView). length z.items) free in
    let staged : length t.batch ≡ length s.batch =
    ap (λ (z : List (WaitRef × ReadIoView)). length z) batch in
    record {
      free = free;
      records = omega arith;
      started = started;
      runs = λ given runs. reads-taken-in c.args.scope.now
          c.args.context.now.actor.now.known c.settle_oldest.new.context.actor.now.known s _
          c.in-Some.io given runs c.in-Some.ensures.run items batch (omega arith);
    }

pub returns-in_default-clause-idle : goal.returns-in_default-clause-idle
returns-in_default-clause-idle g c =
    subst (λ (z : ActorView). HasIdleHandle c.args.context.now.table.now.config z.known)
    (sym c.in_default.ensures.same_state.1)
    (idle-at-rest c.args.scope.now g.W.World _
    c.args.context.now.actor.now.known c.args.self.now c.requires.valid_context.scope.1
    c.requires.issued
    c.requires.valid_context.backend c.requires.batch_empty c.in_default.ensures.none)
