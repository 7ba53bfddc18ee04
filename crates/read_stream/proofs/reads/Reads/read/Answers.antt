use Rattle.std.proofs.Common.{◌≡◌, List, [], ◌∷◌, refl, ap, ◌∙◌, arith, length, subst}
use Rattle.std.proofs.Common.{⊎_elim}
use Rattle.std.specs.Prelude.{slice_get}
use Rattle.aio_word.specs.declared.Known.{Known}
use Rattle.aio_word.specs.declared.WaitRef.{WaitRef}
use Rattle.aio_callback.specs.ReadIoView.{ReadIoView, record_aim}
use Rattle.circular_buffer.specs.Buffer.{Buffer}
use Rattle.read_stream.specs.declared.reads.EndedRead.{EndedRead}
use Rattle.read_stream.specs.declared.reads.Reads.{Reads}
use Rattle.read_stream.specs.StreamIos.{IsStreamIo}
use Rattle.read_stream.proofs.ActorAdvancedLaws.{advanced_submitting}
use Rattle.read_stream.proofs.ContextAdvancedLaws.{context_advanced_by, context_advanced_then}
use Rattle.read_stream.proofs.ReadsMatchRuns.{reads-at-once, reads-fronted, new_ended}
use Rattle.read_stream.proofs.QueueMovesKeepIssued.{front-ended}
use Rattle.read_stream.proofs.SubmitKeepsIssued.{all-submitted, lent-at-once, only-one, for-at-once}
use Rattle.read_stream.proofs.SubmitKeepsIssued.{counted-at-once}
use Rattle.read_stream.proofs.reads.Reads.read.Goals as goal

pub settle-io-requires-clause-held_by_caller : goal.settle-io-requires-clause-held_by_caller
settle-io-requires-clause-held_by_caller g c =
    let token = c.stage-token.ensures.token in
    let all = c.stage-token.ensures.same.records in
    let before = c.submit.ensures.same.records in
    let room = c.requires.room in
    lent-at-once c.args.scope.now g.W.World
    c.stage-token.new.context.actor.now.known c.submit_next.new.actor.known c.stage-token.new.self
    c.put.new.self c.stage-token.result c.submit_next.new.self c.in-Some.token _ _ _ _
    c.put.ensures token.0 token.1 token.2 c.stage-token.ensures.apart (omega arith)
    c.stage-token.ensures.issued c.in-Some.ensures.next c.submit_next.ensures.tokens

pub settle-io-requires-clause-all_submitted : goal.settle-io-requires-clause-all_submitted
settle-io-requires-clause-all_submitted g c =
    let few = c.stage-token.ensures.batch in
    let none : length c.submit.new.self.batch ≡ 0 =
    ap (λ (z : List (WaitRef × ReadIoView)). length z) c.submit.ensures.none in
    let held = settle-io-requires-clause-held_by_caller g c in
    all-submitted c.args.scope.now (c.in-Some.token ∷ []) g.W.World
    c.submit_next.new.actor.known _ held.issued
    (only-one c.args.scope.now _ _ c.stage-token.new.self c.put.new.self c.stage-token.result
    c.submit_next.new.self c.in-Some.token _ _ _ _ (omega arith) c.put.ensures
    c.in-Some.ensures.next).1
    (λ t i. ⊎_elim (λ e. subst (λ (z : WaitRef). IsStreamIo c.args.scope.now
    c.submit_next.new.actor.known z) e held.stream_ios) (λ j. absurd j) i)

pub returns-clause-context_advanced : goal.returns-clause-context_advanced
returns-clause-context_advanced g c =
    let x = c.stage-token.new.context in
    let s = c.submit_next.ensures in
    context_advanced_then c.settle-io.ensures.context_advanced
    (context_advanced_then (context_advanced_by x c.submit_next.new.actor x.method.now
    c.submit_next.new.runner s.same s.told (advanced_submitting record_aim c.put.new.self.batch
    c.submit_next.new.self c.in-Some.token x.actor.now.known c.submit_next.new.actor.known
    _ _ _ _ c.in-Some.ensures.next) refl)
    (context_advanced_then c.stage-token.ensures.context_advanced c.submit.ensures.context_advanced))

pub returns-clause-issued : goal.returns-clause-issued
returns-clause-issued g c =
    let s : Reads g.row.W.Denot = c.settle-io.new.self in
    let x : WaitRef × ReadIoView = c.stage-token.result in
    let few = c.stage-token.ensures.batch in
    let none : length c.submit.new.self.batch ≡ 0 =
    ap (λ (z : List (WaitRef × ReadIoView)). length z) c.submit.ensures.none in
    let gone = (only-one c.args.scope.now c.stage-token.new.context.actor.now.known
    c.submit_next.new.actor.known c.stage-token.new.self c.put.new.self x c.submit_next.new.self
    c.in-Some.token _ _ _ _ (omega arith) c.put.ensures c.in-Some.ensures.next).1 in
    let (free, ended, in_flight, batch, taken) = c.settle-io.ensures.all in
    let same = counted-at-once c.args.scope.now c.stage-token.new.self c.put.new.self s x
    c.submit_next.new.self (omega arith) c.put.ensures gone free ended in_flight batch in
    let staged = c.stage-token.ensures.same.records in
    let before = c.submit.ensures.same.records in
    let room = c.requires.room in
    rw c.push_front.ensures (front-ended c.args.scope.now g.W.World
    c.settle-io.new.context.actor.now.known s (new_ended c.settle-io.result) (omega arith)
    c.settle-io.ensures.record c.settle-io.ensures.issued)

pub returns-clause-runs : goal.returns-clause-runs
returns-clause-runs g c = λ given runs f.
    (let few = c.stage-token.ensures.batch in
    let none : length c.submit.new.self.batch ≡ 0 =
    ap (λ (z : List (WaitRef × ReadIoView)). length z) c.submit.ensures.none in
    let x : WaitRef × ReadIoView = c.stage-token.result in
    let s : Reads g.row.W.Denot = c.settle-io.new.self in
    let b : Known = c.stage-token.new.context.actor.now.known in
    let q : Known = c.submit_next.new.actor.known in
    let n = c.in-Some.ensures.next in
    let r = c.settle-io.ensures.aim x.1.first x.1.count (for-at-once c.args.scope.now
    b q c.stage-token.new.self c.put.new.self x c.submit_next.new.self c.in-Some.token _ _ _ _
    (omega arith) c.put.ensures c.stage-token.ensures.token.1 n) in
    reads-fronted c.args.scope.now c.settle-io.new.context.actor.now.known s _
    c.settle-io.result c.args.run given runs
    (ap (λ (z : Buffer EndedRead). record s { ended = z }) c.push_front.ensures)
    (r.0 ∙ c.stage-token.ensures.run.0, r.1 ∙ c.stage-token.ensures.run.1)
    c.requires.run.not_empty
    (c.settle-io.ensures.runs given runs (reads-at-once c.args.scope.now b q c.stage-token.new.self
    c.put.new.self x c.submit_next.new.self c.in-Some.token _ _ _ _ given runs (omega arith)
    c.put.ensures n
    (advanced_submitting record_aim c.put.new.self.batch c.submit_next.new.self c.in-Some.token b q
    _ _ _ _ n)
    (c.stage-token.ensures.same.runs given runs (c.submit.ensures.same.runs given runs f)))))

pub returns-clause-oldest : goal.returns-clause-oldest
returns-clause-oldest g c = (
  new_ended c.settle-io.result,
  ap (λ (z : Buffer EndedRead). slice_get z.items 0) c.push_front.ensures,
  refl,
)
