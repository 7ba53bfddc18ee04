use Rattle.std.proofs.Common.{◌≡◌, [], ◌∷◌, List, sym, ap, ◌∙◌, subst, drop}
use Rattle.aio_word.specs.declared.WaitRef.{WaitRef}
use Rattle.circular_buffer.specs.Buffer.{Buffer}
use Rattle.read_plan.specs.declared.runs.Run.{Run}
use Rattle.aio_word.specs.declared.Known.{Known}
use Rattle.read_stream.specs.StreamIos.{InFlightForRuns, run_of}
use Rattle.read_stream.proofs.ReadsMatchRuns.{in-flight-first}
use Rattle.read_stream.proofs.QueueMovesKeepIssued.{first-of, less-in-flight, nothing-of}
use Rattle.read_stream.proofs.QueueMovesKeepIssued.{same-queue}
use Rattle.read_stream.proofs.SubmitKeepsIssued.{all-submitted}
use Rattle.read_stream.proofs.reads.Reads.settle_oldest.Goals as goal

pub settle-requires-clause-held_by_caller : goal.settle-requires-clause-held_by_caller
settle-requires-clause-held_by_caller g c = rw c.pop_front.ensures.items
    (less-in-flight c.args.scope.now g.W.World
    c.args.context.now.actor.now.known c.args.self.now c.in-Some.token
    (sym c.pop_front.ensures.value ∙ c.in-Some.is) c.requires.issued)

pub settle-requires-clause-all_submitted : goal.settle-requires-clause-all_submitted
settle-requires-clause-all_submitted g c =
    all-submitted c.args.scope.now [] g.W.World
    c.args.context.now.actor.now.known c.args.self.now c.requires.issued c.requires.batch_empty
    (λ t i. absurd i)

pub returns-in-Some-clause-run : goal.returns-in-Some-clause-run
returns-in-Some-clause-run g c = λ runs stream_ios.
    (let xs : List WaitRef = c.args.self.now.in_flight.items in
    let t : WaitRef = c.in-Some.token in
    let p : Known = c.args.context.now.actor.now.known in
    let q : Known = c.settle.new.context.actor.now.known in
    let first = first-of xs t (sym c.pop_front.ensures.value ∙ c.in-Some.is) in
    let left : c.settle.new.self.in_flight.items ≡ drop 1 xs =
    ap (λ (z : Buffer WaitRef). z.items) (c.settle.ensures.all.2 ∙ c.pop_front.ensures.items) in
    subst (λ (z : List WaitRef). (rest : List Run) × (runs ≡ run_of c.settle.result ∷ rest)
    × InFlightForRuns c.args.scope.now q z rest) (sym left)
    (in-flight-first c.args.scope.now p q t (drop 1 xs) c.settle.result runs
    c.settle.ensures.context_advanced.advanced.actor_advanced.aims c.settle.ensures.aim
    (subst (λ (z : List WaitRef). InFlightForRuns c.args.scope.now p z runs) first stream_ios)))

pub returns-in-None-clause-issued : goal.returns-in-None-clause-issued
returns-in-None-clause-issued g c =
    let xs : Buffer WaitRef = c.args.self.now.in_flight in
    rw (same-queue xs c.pop_front.new.self c.pop_front.ensures.items
    (nothing-of xs.items (sym c.pop_front.ensures.value ∙ c.in-None.is))) c.requires.issued
