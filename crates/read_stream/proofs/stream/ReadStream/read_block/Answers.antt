use Rattle.std.proofs.Common.{◌≡◌, List, [], length, drop, ap, sym, arith, ◌∙◌, refl}
use Rattle.circular_buffer.specs.Buffer.{Buffer}
use Rattle.aio_callback.specs.ReadIoView.{ReadIoView}
use Rattle.aio_word.specs.declared.Known.{Known}
use Rattle.read_stream.specs.declared.blocks.Blocks.{Blocks}
use Rattle.read_stream.specs.declared.reads.Reads.{Reads}
use Rattle.read_stream.specs.declared.stream.ReadStream.{ReadStream}
use Rattle.read_stream.proofs.ContextAdvancedLaws.{context_advanced_then}
use Rattle.read_stream.proofs.FrontIsRead.{alone_read, may_read_alone}
use Rattle.read_stream.proofs.FrontOfQueue.{front_read_long}
use Rattle.read_stream.proofs.StreamInvariantLaws.{same_stream_then}
use Rattle.read_stream.proofs.QueueMovesKeepIssued.{less-free}
use Rattle.read_stream.proofs.ReadsMatchRuns.{reads-later}
use Rattle.read_stream.proofs.stream.ReadStream.read_block.Goals as goal

pub read-requires-clause-issued : goal.read-requires-clause-issued
read-requires-clause-issued g c = rw c.pop_front.ensures.items
    (less-free c.args.self.now.scope g.W.World c.args.context.now.actor.now.known
    c.args.self.now.desk.now.reads c.in-Some.io (sym c.pop_front.ensures.value ∙ c.in-Some.is)
    c.requires.underway.invariant.records.issued).0

pub read-requires-clause-few_ios : goal.read-requires-clause-few_ios
read-requires-clause-few_ios g c =
    may_read_alone g.S.BlockSource.left g.W.World c.args.context.now.actor.now.known
    c.args.self.now c.args.block c.requires.underway c.requires.front

pub lend-requires-clause-in_front : goal.lend-requires-clause-in_front
lend-requires-clause-in_front g c =
    let s : ReadStream g.row.W.Denot g.row.S.Denot g.row.P.Denot = c.args.self.now in
    let was : Reads g.row.W.Denot = s.desk.now.reads in
    let r : Reads g.row.W.Denot = c.read.new.self in
    let p : Known = c.args.context.now.actor.now.known in
    let q : Known = c.read.new.context.actor.now.known in
    let (issued, room, one) = less-free s.scope g.W.World p was c.in-Some.io
    (sym c.pop_front.ensures.value ∙ c.in-Some.is) c.requires.underway.invariant.records.issued in
    let shorter : length c.pop_front.new.self.items ≡ length (drop 1 was.free.items) =
    ap (λ (z : Buffer ReadIoView). length z.items) c.pop_front.ensures.items in
    let read = c.read.ensures in
    let (records, started, free) = read.all in
    let left : length r.free.items ≡ length c.pop_front.new.self.items =
    ap (λ (z : Buffer ReadIoView). length z.items) free in
    let none : length r.batch ≡ 0 = ap (λ (z : List _). length z) read.none in
    rw (c.waited.ensures, c.read_front.ensures)
    (alone_read g.S.BlockSource.left g.W.World p s q r c.args.block _ c.requires.underway
    c.requires.front read.issued (omega arith) (omega arith) (omega arith)
    (λ given runs a. read.runs given runs (reads-later s.scope p p was
    (record was { free = c.pop_front.new.self }) given runs (λ x i. i) refl refl refl refl a))
    (read.oldest.0, read.oldest.1))

pub returns-clause-context_advanced : goal.returns-clause-context_advanced
returns-clause-context_advanced g c =
    context_advanced_then c.lend.ensures.context_advanced c.read.ensures.context_advanced

pub returns-clause-same_stream : goal.returns-clause-same_stream
returns-clause-same_stream g c =
    let s : ReadStream g.row.W.Denot g.row.S.Denot g.row.P.Denot = c.args.self.now in
    let long : length c.read_front.new.self.queue.items ≡ length s.desk.now.blocks.queue.items =
    ap (λ (z : Blocks g.row.P.Denot). length z.queue.items) c.read_front.ensures
    ∙ front_read_long s.desk.now.blocks.queue.items c.args.block [] c.requires.front in
    same_stream_then g.S.BlockSource.left s _ _ (record {
      reading = record { desk = refl; scope = refl; source_was = refl; settings = refl };
      given = omega arith;
    }) c.lend.ensures.same_stream
