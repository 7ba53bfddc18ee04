use Rattle.std.proofs.Common.{rules, ◌≡◌, [], subst, ap, ◌∙◌, arith}
use Rattle.aio_word.specs.declared.Known.{Known}
use Rattle.aio_word.specs.declared.WaitRef.{WaitRef}
use Rattle.aio_word.specs.declared.Step.TheVariants.{Stage}
use Rattle.aio_word.specs.Tokens.{IsDefined}
use Rattle.aio_handle.specs.LifeWords.{defined_word, staged_word}
use Rattle.aio_handle.specs.CallEvents.{EventMade}
use Rattle.aio_callback.specs.ReadIoView.{ReadIoView, record_aim}
use Rattle.read_stream.specs.declared.reads.Reads.{Reads}
use Rattle.read_stream.proofs.ReadsMatchRuns.{same_reads_later, same_reads_then}
use Rattle.read_stream.proofs.StageKeepsIssued.{advanced-staged, advanced-defined, issued-staged}
use Rattle.read_stream.proofs.StageKeepsIssued.{staged-apart, aimed-as}
use Rattle.read_stream.proofs.reads.Reads.stage.Goals as goal

pub returns : goal.returns
returns g c =
    let t : WaitRef = c.acquire-token.result in
    let p : Known = c.args.context.now.actor.now.known in
    let q : Known = c.acquire-token.new.context.actor.now.known in
    let q1 : Known = c.define-token.new.actor.known in
    let q2 : Known = c.stage.new.actor.known in
    let s : Reads g.row.W.Denot = c.acquire-token.new.self in
    let acquired = c.acquire-token.ensures in
    let defined = c.define-token.ensures in
    let staged = c.stage.ensures in
    let before = acquired.context_advanced in
    let is-defined : IsDefined q1 t = rw (← defined.token.0) defined.token.2 in
    let stages : EventMade Stage t.handle (defined_word t.generation) (staged_word t.generation) []
    q1 q2 =
    subst (λ (z : WaitRef). EventMade Stage z.handle (defined_word z.generation)
    (staged_word z.generation) [] q1 q2) defined.token.0 staged.event in
    let same : c.stage.result.0 ≡ t =
    ap (λ (z : WaitRef × ReadIoView). z.0) staged.token.0 ∙ defined.token.0 in
    let aim : record_aim c.stage.result.1 ≡ record_aim c.aim_record-io.result =
    ap (λ (z : WaitRef × ReadIoView). record_aim z.1) staged.token.0 ∙ defined.token.1 in
    let (aimed, first, count) = aimed-as c.args.scope.now c.args.io c.aim_record-io.result c.stage.result.1
    c.args.run.first c.args.run.count c.aim_record-io.ensures c.requires.record aim in
    let started = acquired.same.started in
    let allowed = c.requires.few_ios in
    record {
      context_advanced = record {
        table = before.table;
        actor = before.actor;
        method = before.method;
        runner = before.runner;
        advanced = record {
          same = (
            staged.same.0 ∙ (defined.same.0 ∙ before.advanced.same.0),
            staged.same.1 ∙ (defined.same.1 ∙ before.advanced.same.1),
            staged.same.2 ∙ (defined.same.2 ∙ before.advanced.same.2),
          );
          told = before.advanced.told;
          actor_advanced = advanced-staged c.args.scope.now g.W.World p q
              q1 q2 s t _ _ _ _ acquired.handle_handed_out defined.event is-defined stages;
          stands_on = before.advanced.stands_on;
        };
      };
      issued = rw same (issued-staged c.args.scope.now g.W.World p q q1 q2
          s t _ _ _ _ acquired.handle_handed_out defined.event is-defined stages (omega arith));
      token = (staged.token.1, aimed, rw same acquired.handle_handed_out.is_new);
      run = (first, count);
      apart = λ u i x. staged-apart c.args.scope.now g.W.World p q q1 q2 s
          t _ _ _ _ acquired.handle_handed_out defined.event is-defined stages u i (x ∙ same);
      batch = search rules;
      same = same_reads_then c.args.scope.now p q q2 c.args.self.now s s acquired.same
          (same_reads_later c.args.scope.now q q2 s
          (advanced-defined c.args.scope.now g.W.World p q q1 q2 s t
          _ _ _ _ acquired.handle_handed_out defined.event is-defined stages).aims);
    }
