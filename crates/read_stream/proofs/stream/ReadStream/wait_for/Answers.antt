use Rattle.std.proofs.Common.{refl, arith, []}
use Rattle.std.specs.Prelude.{None}
use Rattle.aio_word.specs.declared.Known.{Known}
use Rattle.read_stream.specs.declared.io_context.IoContext.{IoContext}
use Rattle.read_stream.specs.declared.reads.Reads.{Reads}
use Rattle.read_stream.specs.declared.stream.ReadStream.{ReadStream}
use Rattle.read_stream.proofs.ActorAdvancedLaws.{advanced_taking_up}
use Rattle.read_stream.proofs.ContextAdvancedLaws.{context_advanced_by}
use Rattle.read_stream.proofs.ReadsMatchRuns.{same_reads_later}
use Rattle.read_stream.proofs.SubmitKeepsIssued.{issued-taking-up}
use Rattle.read_stream.proofs.UnderwayLaws.{underway_later}
use Rattle.read_stream.proofs.stream.ReadStream.wait_for.Goals as goal

pub returns-clause-context_advanced : goal.returns-clause-context_advanced
returns-clause-context_advanced g c =
    let x : IoContext g.row.W.Denot g.row.M.Denot g.row.E.Denot = c.args.context.now in
    context_advanced_by x c.wait.new.actor x.method.now c.wait.new.runner c.wait.ensures.same
    c.wait.ensures.told
    (advanced_taking_up x.actor.now.known c.wait.new.actor.known _ _ _ _ c.wait.ensures.marks) refl

pub returns-clause-underway : goal.returns-clause-underway
returns-clause-underway g c =
    let n : ReadStream g.row.W.Denot g.row.S.Denot g.row.P.Denot = c.args.self.now in
    let reads : Reads g.row.W.Denot = n.desk.now.reads in
    let p : Known = c.args.context.now.actor.now.known in
    let q : Known = c.wait.new.actor.known in
    let advanced = advanced_taking_up p q _ _ _ _ c.wait.ensures.marks in
    let v = c.requires.underway.invariant.records in
    rw c.waited.ensures
    (underway_later g.S.BlockSource.left g.W.World p q n reads None 0 0 _
    (issued-taking-up n.scope [] g.W.World p q reads _ _ _ _ c.wait.ensures.marks v.issued)
    v.batch_within (same_reads_later n.scope p q reads advanced.aims)
    (omega arith) c.requires.underway)
