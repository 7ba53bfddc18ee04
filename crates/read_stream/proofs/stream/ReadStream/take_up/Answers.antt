use Rattle.std.proofs.Common.{◌≡◌, List, length, ap, arith, ◌∙◌}
use Rattle.std.specs.Prelude.{None}
use Rattle.read_stream.specs.declared.stream.ReadStream.{ReadStream}
use Rattle.read_stream.specs.StreamState.{IsFrontStarted}
use Rattle.read_stream.proofs.ContextAdvancedLaws.{context_advanced_then}
use Rattle.read_stream.proofs.FrontIsRead.{read_taken_up}
use Rattle.read_stream.proofs.UnderwayLaws.{underway_later}
use Rattle.read_stream.proofs.stream.ReadStream.take_up.Goals as goal

pub returns-clause-context_advanced : goal.returns-clause-context_advanced
returns-clause-context_advanced g c =
    context_advanced_then c.take_up.ensures.context_advanced c.submit.ensures.context_advanced

pub returns-clause-underway : goal.returns-clause-underway
returns-clause-underway g c =
    let taken = c.take_up.ensures in
    let none : length c.take_up.new.self.batch ≡ 0 =
    ap (λ (z : List _). length z) (taken.batch ∙ c.submit.ensures.batch_empty) in
    rw c.waited.ensures
    (underway_later g.S.BlockSource.left g.W.World c.submit.new.context.actor.now.known
    c.take_up.new.context.actor.now.known c.submit.new.self c.take_up.new.self None 0 0 _
    taken.issued (omega arith) taken.same (omega arith) c.submit.ensures.underway)

pub returns-clause-oldest : goal.returns-clause-oldest
returns-clause-oldest g c =
    let n : ReadStream g.row.W.Denot g.row.S.Denot g.row.P.Denot = c.submit.new.self in
    let done = c.submit.ensures in
    let started : IsFrontStarted n =
    rw (done.blocks.0, done.same_stream.reading.settings, done.free) c.requires.started in
    let taken = c.take_up.ensures in
    read_taken_up g.S.BlockSource.left g.W.World c.submit.new.context.actor.now.known n
    c.take_up.new.context.actor.now.known c.take_up.new.self c.args.block done.underway
    (rw done.blocks.0 c.requires.front) started taken.same (taken.batch ∙ done.batch_empty)
    taken.taken
