use Rattle.std.proofs.Common.{◌∙◌, List, refl, sym, subst, rules}
use Rattle.std.proofs.lemmas.List.{take_more}
use Rattle.aio_word.specs.declared.WaitRef.{WaitRef}
use Rattle.aio_handle.proofs.ExecutionsCompose.{executes_nothing, executes_then}
use Rattle.aio_handle.proofs.ListsGrow.{appends-none}
use Rattle.aio_batch.specs.Heard.{AppendsHeard}
use Rattle.aio_batch.proofs.HeardInOrder.{heard-nothing, heard-then}
use Rattle.aio_batch.proofs.method.Method.batch_submitted.Goals as goal

pub loop-reference-init : goal.loop-reference-init
loop-reference-init g c = record {
  table = c.requires.table;
  same = search rules;
  told = refl;
  relations = refl;
  heard = heard-nothing (g.Self.Method.heard c.args.self.now);
  stands_on = refl;
  marks = executes_nothing _ _ _ _ (appends-none c.args.actor.now.known);
}

pub loop-reference-preserved : goal.loop-reference-preserved
loop-reference-preserved g c =
    let i = c.loop-reference.invariant in
    let begun = c.begun.ensures in record {
      table = search rules;
      same = search rules;
      told = begun.told.0 ∙ i.told;
      relations = begun.told.1 ∙ i.relations;
      heard = subst (λ (z : List WaitRef). AppendsHeard (g.Self.Method.heard c.args.self.now)
          (g.Self.Method.heard c.begun.new.self) z)
          (sym (take_more c.args.references.now c.loop-reference.reference-index _
          c.loop-reference-test.true))
          (heard-then _ (g.Self.Method.heard c.loop-reference.self) _ _ _ i.heard begun.heard);
      stands_on = begun.stands_on ∙ i.stands_on;
      marks = executes_then _ c.loop-reference.actor.known _ _ _ _ _ _ _ i.marks begun.marks;
    }
