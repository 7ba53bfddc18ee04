use Rattle.std.proofs.Common.{◌≡◌, List, ◌∷◌, length, drop, ap, sym, subst, arith, ◌∙◌}
use Rattle.circular_buffer.specs.Buffer.{Buffer}
use Rattle.read_plan.specs.declared.runs.Run.{Run}
use Rattle.read_stream.specs.StreamIos.{ReadsForRuns}
use Rattle.read_stream.specs.declared.reads.EndedRead.{EndedRead}
use Rattle.read_stream.specs.declared.reads.Reads.{Reads}
use Rattle.read_stream.proofs.FrontIsRead.{may_read_rest, oldest_facts, rest_read}
use Rattle.read_stream.proofs.OldestRead.{issued_popped}
use Rattle.read_stream.proofs.stream.ReadStream.read_rest.Goals as goal

pub left-run-requires : goal.left-run-requires
left-run-requires g c = (oldest_facts g.S.BlockSource.left g.W.World
    c.args.context.now.actor.now.known c.args.self.now c.args.block c.requires.in_front
    c.in-Some.oldest (sym c.pop_front.ensures.value ∙ c.in-Some.is)).0

pub read-requires-clause-issued : goal.read-requires-clause-issued
read-requires-clause-issued g c = rw c.pop_front.ensures.items
    (issued_popped c.args.self.now.scope g.W.World c.args.context.now.actor.now.known
    c.args.self.now.desk.now.reads c.in-Some.oldest
    (sym c.pop_front.ensures.value ∙ c.in-Some.is)
    c.requires.in_front.underway.invariant.records.issued).0

pub read-requires-clause-few_ios : goal.read-requires-clause-few_ios
read-requires-clause-few_ios g c =
    let at = sym c.pop_front.ensures.value ∙ c.in-Some.is in
    may_read_rest g.S.BlockSource.left g.W.World c.args.context.now.actor.now.known
    c.args.self.now c.args.block c.requires.in_front c.in-Some.oldest at
    (c.requires.given_from c.in-Some.oldest at)

pub returns-clause-in_front : goal.returns-clause-in_front
returns-clause-in_front g c =
    let s = c.args.self.now in
    let r : Reads g.row.W.Denot = c.read.new.self in
    let p = c.args.context.now.actor.now.known in
    let q = c.read.new.context.actor.now.known in
    let e : EndedRead = c.in-Some.oldest in
    let at = sym c.pop_front.ensures.value ∙ c.in-Some.is in
    let popped = issued_popped s.scope g.W.World p s.desk.now.reads e at
    c.requires.in_front.underway.invariant.records.issued in
    let one = popped.2 in
    let shorter : length c.pop_front.new.self.items
    ≡ length (drop 1 s.desk.now.reads.ended.items) =
    ap (λ (z : Buffer EndedRead). length z.items) c.pop_front.ensures.items in
    let read = c.read.ensures in
    let (records, started, free) = read.all in
    let none : length r.batch ≡ 0 = ap (λ (z : List _). length z) read.none in
    rw c.waited.ensures
    (rest_read g.S.BlockSource.left g.W.World p s q r c.args.block _
    c.requires.in_front e at (c.requires.given_from e at) read.issued (omega arith) (omega arith)
    free (λ given runs a. subst (λ (z : Run). ReadsForRuns s.scope q r given (z ∷ runs))
    c.left-run.ensures.left (read.runs given runs
    (subst (λ (z : Buffer EndedRead). ReadsForRuns s.scope p (record s.desk.now.reads { ended = z })
    given runs) (sym c.pop_front.ensures.items) a))) (read.oldest.0, read.oldest.1))
