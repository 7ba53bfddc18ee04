use Rattle.std.proofs.Common.{subst, sym, ap, refl, arith, ◌∙◌}
use Rattle.aio_word.specs.declared.Known.{Known}
use Rattle.aio_handle.specs.ContractViews.{ActorView}
use Rattle.read_stream.specs.declared.io_context.IoContext.{IoContext}
use Rattle.read_stream.specs.declared.reads.Reads.{Reads}
use Rattle.read_stream.specs.declared.scope.Scope.{Scope}
use Rattle.read_stream.specs.StreamIos.{Issued, SameReads, HasIdleHandle}
use Rattle.read_stream.specs.ActorProgress.{ActorAdvanced}
use Rattle.read_stream.proofs.ActorAdvancedLaws.{advanced_nothing, advanced_then, advanced-from}
use Rattle.read_stream.proofs.ContextAdvancedLaws.{context_advanced_by, context_advanced_then}
use Rattle.read_stream.proofs.ReadsMatchRuns.{same_reads_later, same_reads_then}
use Rattle.read_stream.proofs.FreeHandleExists.{handle_is_free}
use Rattle.read_stream.proofs.StageKeepsIssued.{handed-out-later, advanced-handed-out}
use Rattle.read_stream.proofs.reads.Reads.acquire.Goals as goal

pub returns-in-Some-clause-handle_handed_out : goal.returns-in-Some-clause-handle_handed_out
returns-in-Some-clause-handle_handed_out g c = c.in-Some.ensures.handle_handed_out _ _

pub submit-requires-clause-issued : goal.submit-requires-clause-issued
submit-requires-clause-issued g c = subst (λ (z : ActorView). Issued c.args.scope.now g.W.World
    z.known c.args.self.now) (sym c.in_default.ensures.none.0) c.requires.issued

pub returns-clause-handle_handed_out : goal.returns-clause-handle_handed_out
returns-clause-handle_handed_out g c =
    let p : Known = c.args.context.now.actor.now.known in
    let q : Known = c.submit.new.context.actor.now.known in
    let r : Known = c.take_in.new.context.actor.now.known in
    handed-out-later c.args.scope.now g.W.World p r
    c.hand_out-2.new.actor.known c.take_in.new.self c.in-Some-hand_out.token _ _ _ _ _ _
    (advanced_then p q r _ _ _ _ _ _
    (advanced-from c.hand_out.new.actor.known p q _ _ _ _
    (ap (λ (z : ActorView). z.known) c.in_default.ensures.none.0)
    c.submit.ensures.context_advanced.advanced.actor_advanced)
    c.take_in.ensures.context_advanced.advanced.actor_advanced)
    (c.in-Some-hand_out.ensures.handle_handed_out _ _)

pub returns-in-Some-clause-same : goal.returns-in-Some-clause-same
returns-in-Some-clause-same g c = same_reads_later c.args.scope.now
    c.args.context.now.actor.now.known c.hand_out.new.actor.known c.args.self.now
    (advanced-handed-out c.args.scope.now g.W.World c.args.context.now.actor.now.known
    c.hand_out.new.actor.known c.args.self.now c.in-Some.token 0 0 0 0
    (c.in-Some.ensures.handle_handed_out 0 0)).aims

pub unreachable-requires : goal.unreachable-requires
unreachable-requires g c =
    let first = c.submit.ensures.same.started in
    let then = c.take_in.ensures.same.started in
    let few = c.requires.few_ios in
    let table = c.take_in.ensures.context_advanced.table in
    let same = table ∙ c.submit.ensures.context_advanced.table in
    handle_is_free c.args.scope.now g.W.World _
    c.take_in.new.context.actor.now.known
    c.take_in.new.self (c.requires.valid_context.scope.1 ∙ sym (ap (λ z. z.now.config) same))
    c.take_in.ensures.issued (omega arith)
    (subst (λ z. HasIdleHandle z.now.config c.take_in.new.context.actor.now.known) (sym table)
    c.take_in.ensures.idle) c.in-None.ensures.none.1

pub returns-clause-same : goal.returns-clause-same
returns-clause-same g c =
    let scope : Scope g.row.W.Denot = c.args.scope.now in
    let s : Reads g.row.W.Denot = c.args.self.now in
    let s' : Reads g.row.W.Denot = c.submit.new.self in
    let s'' : Reads g.row.W.Denot = c.take_in.new.self in
    let p : Known = c.args.context.now.actor.now.known in
    let m : Known = c.submit.new.context.actor.now.known in
    let r : Known = c.take_in.new.context.actor.now.known in
    let q : Known = c.hand_out-2.new.actor.known in
    let submitted : SameReads scope p m s s' =
    subst (λ (z : ActorView). SameReads scope z.known m s s') c.in_default.ensures.none.0
    c.submit.ensures.same in
    same_reads_then scope p r q s s'' s''
    (same_reads_then scope p m r s s' s'' submitted c.take_in.ensures.same)
    (same_reads_later scope r q s'' (advanced-handed-out scope g.W.World r q s''
    c.in-Some-hand_out.token 0 0 0 0 (c.in-Some-hand_out.ensures.handle_handed_out 0 0)).aims)

pub returns-in-Some-clause-context_advanced : goal.returns-in-Some-clause-context_advanced
returns-in-Some-clause-context_advanced g c =
    let x : IoContext g.row.W.Denot g.row.M.Denot g.row.E.Denot = c.args.context.now in
    context_advanced_by x c.hand_out.new.actor x.method.now x.runner.now c.hand_out.ensures.same
    (refl, refl)
    (advanced-handed-out c.args.scope.now g.W.World x.actor.now.known
    c.hand_out.new.actor.known c.args.self.now c.in-Some.token _ _ _ _
    (c.in-Some.ensures.handle_handed_out _ _)) refl

pub returns-clause-context_advanced : goal.returns-clause-context_advanced
returns-clause-context_advanced g c =
    let x : IoContext g.row.W.Denot g.row.M.Denot g.row.E.Denot = c.args.context.now in
    let y : IoContext g.row.W.Denot g.row.M.Denot g.row.E.Denot = c.take_in.new.context in
    context_advanced_then
    (context_advanced_by y c.hand_out-2.new.actor y.method.now y.runner.now
    c.hand_out-2.ensures.same (refl, refl)
    (advanced-handed-out c.args.scope.now g.W.World y.actor.now.known
    c.hand_out-2.new.actor.known c.take_in.new.self c.in-Some-hand_out.token _ _ _ _
    (c.in-Some-hand_out.ensures.handle_handed_out _ _)) refl)
    (context_advanced_then c.take_in.ensures.context_advanced
    (context_advanced_then c.submit.ensures.context_advanced
    (context_advanced_by x c.hand_out.new.actor x.method.now x.runner.now c.hand_out.ensures.same
    (refl, refl)
    (subst (λ (z : ActorView). ActorAdvanced x.actor.now.known z.known
    (g.E.Execute.reads x.runner.now)
    (g.E.Execute.reads x.runner.now) (g.E.Execute.faults x.runner.now)
    (g.E.Execute.faults x.runner.now)) (sym c.in_default.ensures.none.0)
    (advanced_nothing x.actor.now.known _ _)) refl)))
