use Rattle.std.proofs.Common.{length, refl, ap, sym, ◌∙◌, arith}
use Rattle.circular_buffer.specs.Buffer.{Buffer}
use Rattle.aio_callback.specs.ReadIoView.{ReadIoView}
use Rattle.aio_word.specs.declared.Known.{Known}
use Rattle.read_stream.specs.declared.reads.Reads.{Reads}
use Rattle.read_stream.specs.declared.stream.ReadStream.{ReadStream}
use Rattle.read_stream.proofs.QueueMovesKeepIssued.{less-free}
use Rattle.read_stream.proofs.ReadsMatchRuns.{reads-later}
use Rattle.read_stream.proofs.UnderwayLaws.{may_start, underway_started}
use Rattle.read_stream.proofs.stream.ReadStream.start.Goals as goal

pub start-requires-clause-few_ios : goal.start-requires-clause-few_ios
start-requires-clause-few_ios g c =
    may_start g.S.BlockSource.left g.W.World c.args.context.now.actor.now.known c.args.self.now
    c.args.run c.requires.run.not_empty c.requires.underway

pub returns-clause-underway : goal.returns-clause-underway
returns-clause-underway g c =
    let s : ReadStream g.row.W.Denot g.row.S.Denot g.row.P.Denot = c.args.self.now in
    let p : Known = c.args.context.now.actor.now.known in
    let popped : Reads g.row.W.Denot = record s.desk.now.reads { free = c.pop_front.new.self } in
    let free = (less-free s.scope g.W.World p s.desk.now.reads c.in-Some.io
    (sym c.pop_front.ensures.value ∙ c.in-Some.is)
    c.requires.underway.invariant.records.issued).2 in
    let same = ap (λ (z : Buffer ReadIoView). length z.items)
    (c.start.ensures.all.2 ∙ c.pop_front.ensures.items) in
    let left = ap (λ (z : Buffer ReadIoView). length z.items) c.pop_front.ensures.items in
    let count = c.start.ensures.all.0 in
    let some = c.requires.free in
    rw c.started.ensures
    (underway_started g.S.BlockSource.left g.W.World p c.start.new.context.actor.now.known s
    c.args.run c.start.new.self c.start.ensures.issued c.start.ensures.few
    (λ given runs f. c.start.ensures.runs given runs
    (reads-later s.scope p p s.desk.now.reads popped given runs (λ x i. i) refl refl refl refl f))
    (omega arith) (omega arith) some c.requires.underway)
