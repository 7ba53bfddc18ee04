use Rattle.std.proofs.Common.{◌∙◌, List, length, take, refl, subst, arith, rules}
use Rattle.std.proofs.lemmas.List.{take_all}
use Rattle.std.specs.List.{All}
use Rattle.aio_word.specs.declared.WaitRef.{WaitRef}
use Rattle.aio_handle.proofs.ExecutionsCompose.{executes_nothing, executes_then}
use Rattle.aio_handle.proofs.ListsGrow.{appends-none}
use Rattle.aio_handle.specs.ClaimAttempt.{OwnerKnowsClaimed}
use Rattle.aio_batch.proofs.OwnClaimsKnown.{claimed-more}
use Rattle.method_sync.proofs.method.SyncMethodMethodReadIo.batch_submitted.Goals as goal

pub loop-reference-init : goal.loop-reference-init
loop-reference-init g c = record {
  table = c.requires.table;
  same = search rules;
  told = refl;
  relations = refl;
  marks = executes_nothing _ _ _ _ (appends-none c.args.actor.now.known);
  claimed = λ k d less. absurd (omega (arith, less));
}

pub loop-reference-preserved : goal.loop-reference-preserved
loop-reference-preserved g c =
    let i = c.loop-reference.invariant in
    let tried = c.try_execute.ensures in record {
      table = search rules;
      same = search rules;
      told = tried.told.0 ∙ i.told;
      relations = tried.told.1 ∙ i.relations;
      marks = executes_then _ c.loop-reference.actor.known _ _ _ _ _ _ _ i.marks tried.marks;
      claimed = claimed-more _ c.loop-reference.reference-index _ c.args.actor.now.known
          c.loop-reference.actor.known c.try_execute.new.actor.known _ _ _ _ _ _
          c.loop-reference-test.true i.marks tried.marks i.claimed tried.sees;
    }

pub returns-clause-sees : goal.returns-clause-sees
returns-clause-sees g c =
    subst (λ (z : List WaitRef). All
    (λ t. OwnerKnowsClaimed t c.args.actor.now.known c.loop-reference.actor.known) z)
    (take_all c.loop-reference.reference-index c.args.references.now c.loop-reference-test.false)
    c.loop-reference.invariant.claimed
