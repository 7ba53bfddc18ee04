use Rattle.std.proofs.Common.{◌≡◌, [], ◌∷◌, ◌++◌, length, List, ap, sym, subst, arith, refl}
use Rattle.std.proofs.Common.{ℕ, ◌+◌, ◌<◌, ◌∙◌, length-append, take, rules, map, append_assoc, append-nil}
use Rattle.std.proofs.lemmas.List.{length-set, take_more_set, nil_from_length}
use Rattle.std.proofs.lemmas.List.Elements.{All-push}
use Rattle.aio_batch.specs.Heard.{AppendsHeard}
use Rattle.aio_batch.proofs.HeardInOrder.{heard-nothing}
use Rattle.aio_batch.specs.NextSubmission.{IsNextSubmission}
use Rattle.aio_word.specs.declared.WaitRef.{WaitRef}
use Rattle.aio_word.specs.declared.Known.{Known}
use Rattle.aio_callback.specs.ReadIoView.{ReadIoView, record_aim}
use Rattle.aio_word.specs.Stands.{IsIn}
use Rattle.aio_handle.specs.ContractViews.{ActorView}
use Rattle.circular_buffer.specs.Buffer.{Buffer, buffer}
use Rattle.read_stream.specs.declared.reads.Reads.{Reads}
use Rattle.read_stream.specs.declared.io_context.IoContext.{IoContext}
use Rattle.read_stream.specs.IoContexts.{ContextAdvanced}
use Rattle.read_stream.specs.ActorProgress.{ActorAdvanced}
use Rattle.read_stream.proofs.ActorAdvancedLaws.{advanced_submitting}
use Rattle.read_stream.proofs.ContextAdvancedLaws.{valid_context_then, context_advanced_then}
use Rattle.read_stream.proofs.ContextAdvancedLaws.{context_advanced_by, context_advanced_refl}
use Rattle.read_stream.proofs.ReadsMatchRuns.{reads-later, reads-submitted}
use Rattle.read_stream.proofs.ReadsMatchRuns.{same_reads_refl}
use Rattle.read_stream.proofs.SubmitKeepsIssued.{issued-submitted, issued-taking-up}
use Rattle.read_stream.proofs.reads.Reads.submit.Goals as goal

pub loop-token-init : goal.loop-token-init
loop-token-init g c = record {
  handed = c.requires.valid_context;
  context_advanced = context_advanced_refl c.args.context.now;
  issued = c.requires.issued;
  records = refl;
  started = refl;
  free = refl;
  runs = λ given runs f. f;
  size = refl;
  few = (let held = c.len.ensures.held in let room = c.len.ensures.room in omega arith);
  range = λ k d less. absurd (omega (arith, less));
  method = refl;
  taken = refl;
}

-- the batch has one token fewer
one-less : {R : Type 0} (aim_in : R → List ℕ) (before after : List (WaitRef × R)) (t : WaitRef)
    (p q : Known) (a b d e : ℕ) → IsNextSubmission aim_in before after t p q a b d e
    → length before ≡ length after + 1
one-less {R} aim_in before after t p q a b d e n =
    let whole : length before ≡ length (n.token ∷ after) =
    ap (λ (z : List (WaitRef × R)). length z) n.first in omega arith

-- the references that were taken off, and those of the batch behind them
one-taken : {R : Type 0} (aim_in : R → List ℕ) (front : List WaitRef)
    (before after : List (WaitRef × R)) (t : WaitRef) (p q : Known) (a b d e : ℕ)
    → IsNextSubmission aim_in before after t p q a b d e
    → (front ++ t ∷ []) ++ map (λ (u : WaitRef × R). u.0) after
    ≡ front ++ map (λ (u : WaitRef × R). u.0) before
one-taken {R} aim_in front before after t p q a b d e n =
    let whole : map (λ (u : WaitRef × R). u.0) before
    ≡ n.token.0 ∷ map (λ (u : WaitRef × R). u.0) after =
    ap (λ (z : List (WaitRef × R)). map (λ (u : WaitRef × R). u.0) z) n.first in
    append_assoc front (t ∷ []) _
    ∙ ap (λ (z : List WaitRef). front ++ z)
    (ap (λ (z : WaitRef). z ∷ map (λ (u : WaitRef × R). u.0) after) n.reference ∙ sym whole)

pub bounds-references-submitted : goal.bounds-references-submitted
bounds-references-submitted g c =
    let inv = c.loop-token.invariant in
    let less = one-less record_aim c.loop-token.self.batch c.pop_submitted.new.self c.in-Some.token
    _ _ 0 0 0 0 (c.in-Some.ensures.next 0 0) in
    let few = inv.few in let size = inv.size in omega arith

pub push-requires : goal.push-requires
push-requires g c =
    let less = one-less record_aim c.loop-token.self.batch c.pop_submitted.new.self c.in-Some.token
    _ _ 0 0 0 0 (c.in-Some.ensures.next 0 0) in
    let issued = c.loop-token.invariant.issued in
    let within = issued.count_within in let place = issued.room.in_flight_room in omega arith

pub loop-token-smaller : goal.loop-token-smaller
loop-token-smaller g c =
    let less = one-less record_aim c.loop-token.self.batch c.pop_submitted.new.self c.in-Some.token
    _ _ 0 0 0 0 (c.in-Some.ensures.next 0 0) in omega arith

pub loop-token-preserved : goal.loop-token-preserved
loop-token-preserved g c =
    let W : Type 0 = g.row.W.Denot in
    let s : Reads W = c.loop-token.self in
    let inv = c.loop-token.invariant in
    let t : WaitRef = c.in-Some.token in
    let p : Known = c.loop-token.context.actor.now.known in
    let q : Known = c.pop_submitted.new.actor.known in
    let x = c.loop-token.context in
    let n = c.in-Some.ensures.next (g.E.Execute.reads x.runner.now)
    (g.E.Execute.faults x.runner.now) in
    let after = c.pop_submitted.new.self in
    let items : c.push.new.queue ≡ buffer (s.in_flight.items ++ t ∷ []) s.in_flight.capacity =
    c.push.ensures in
    let whole : length s.batch ≡ length (n.token ∷ after) =
    ap (λ (z : List (WaitRef × ReadIoView)). length z) n.first in
    let more : length c.push.new.queue.items ≡ length (s.in_flight.items ++ t ∷ []) =
    ap (λ (z : Buffer WaitRef). length z.items) items in
    let parts = length-append s.in_flight.items (t ∷ []) in
    let actor_advanced : ActorAdvanced p q _ _ _ _ = advanced_submitting record_aim s.batch after t
    p q _ _ _
    _ n
    in
    let context_advanced = context_advanced_then (context_advanced_by x c.pop_submitted.new.actor
    x.method.now x.runner.now c.pop_submitted.ensures.same (refl, refl) actor_advanced refl)
    inv.context_advanced in
    record {
      handed = valid_context_then c.requires.valid_context context_advanced;
      context_advanced = context_advanced;
      issued = rw items (issued-submitted c.args.scope.now g.W.World p q
          s after t _ _ _ _ n c.pop_submitted.ensures.tokens inv.issued);
      records = (let k = inv.records in omega arith);
      started = (let k = inv.started in omega arith);
      free = inv.free;
      runs = λ given runs f. rw items (reads-submitted c.args.scope.now p q s after t _ _ _ _ given
          runs n actor_advanced (λ x j. (inv.issued.tokens.staged_ios x j).0)
          (inv.runs given runs f));
      size = length-set c.loop-token.references c.loop-token.submitted c.reference.result ∙ inv.size;
      few = (let k = inv.few in omega arith);
      range = rw (take_more_set c.loop-token.references c.loop-token.submitted c.reference.result
          (let few = inv.few in let size = inv.size in omega arith))
          (All-push (λ (u : WaitRef). u.handle < g.W.World.handles)
          (take c.loop-token.submitted c.loop-token.references) c.reference.result inv.range
          (search rules));
      method = inv.method;
      taken = rw (take_more_set c.loop-token.references c.loop-token.submitted c.reference.result
          (let few = inv.few in let size = inv.size in omega arith))
          (rw c.reference.ensures (one-taken record_aim (take c.loop-token.submitted c.loop-token.references) s.batch after
          t p q _ _ _ _ n ∙ inv.taken));
    }

pub returns-clause-context_advanced : goal.returns-clause-context_advanced
returns-clause-context_advanced g c =
    let x : IoContext g.row.W.Denot g.row.M.Denot g.row.E.Denot = c.loop-token.context in
    context_advanced_then c.begin.ensures.context_advanced (subst
    (λ (z : ActorView). ContextAdvanced g.E.Execute g.M.Method c.args.context.now
    (record x { actor = record x.actor { now = z } })) (sym c.in_default.ensures.none.2)
    c.loop-token.invariant.context_advanced)

pub returns-clause-issued : goal.returns-clause-issued
returns-clause-issued g c =
    let none = c.in_default.ensures.none in
    rw none.1 (issued-taking-up c.args.scope.now [] g.W.World
    c.pop_submitted.new.actor.known c.begin.new.context.actor.now.known c.loop-token.self _ _ _ _
    c.begin.ensures.marks (rw none.2 c.loop-token.invariant.issued))

pub returns-clause-same : goal.returns-clause-same
returns-clause-same g c =
    let none = c.in_default.ensures.none in
    let inv = c.loop-token.invariant in
    record {
      free = inv.free;
      records = search rules;
      started = search rules;
      runs = λ given runs f. reads-later c.args.scope.now c.loop-token.context.actor.now.known
          c.begin.new.context.actor.now.known c.loop-token.self _ given runs
          (λ x i. c.begin.ensures.marks.grows.aims x
          (subst (λ (z : ActorView). IsIn x z.known.aims) (sym none.2) i)) refl refl none.1 refl
          (inv.runs given runs f);
    }

pub returns-clause-heard : goal.returns-clause-heard
returns-clause-heard g c shared =
    let inv = c.loop-token.invariant in
    let front : List WaitRef = take c.loop-token.submitted c.loop-token.references in
    let whole = sym (append-nil front)
    ∙ (ap (λ (z : List (WaitRef × ReadIoView)). front ++ map (λ (u : WaitRef × ReadIoView). u.0) z)
    (sym c.in_default.ensures.none.0) ∙ inv.taken) in
    subst (λ (z : List WaitRef). AppendsHeard (g.M.Method.heard c.args.context.now.method.now)
    (g.M.Method.heard c.begin.new.context.method.now) z) whole
    (subst (λ (z : g.row.M.Denot). AppendsHeard (g.M.Method.heard z)
    (g.M.Method.heard c.begin.new.context.method.now) front) inv.method
    (c.begin.ensures.heard shared))

pub returns-then-len-eq0-clause-heard : goal.returns-then-len-eq0-clause-heard
returns-then-len-eq0-clause-heard g c shared =
    rw (nil_from_length c.args.self.now.batch (sym c.len.ensures.held ∙ c.if-len-eq0.true))
    (heard-nothing (g.M.Method.heard c.args.context.now.method.now))

pub returns-then-len-eq0-clause-same : goal.returns-then-len-eq0-clause-same
returns-then-len-eq0-clause-same g c = same_reads_refl c.args.scope.now _ c.args.self.now
