use Rattle.std.proofs.Common.{◌∙◌, ◌≡◌, ℕ, ◌-◌, List, length, take, drop, refl, ap, subst, arith}
use Rattle.std.proofs.Common.{rules, inl, inr}
use Rattle.std.proofs.lemmas.List.{length-drop, take_all}
use Rattle.std.specs.List.{All}
use mathlib.Core.Logic.{dite}
use native.Mathlib.Decide.{dec_lt}
use Rattle.aio_word.specs.declared.WaitRef.{WaitRef}
use Rattle.aio_handle.proofs.ExecutionsCompose.{executes_nothing, executes_then}
use Rattle.aio_handle.proofs.ListsGrow.{appends-none}
use Rattle.aio_handle.specs.ClaimAttempt.{OwnerKnowsClaimed}
use Rattle.aio_batch.proofs.OwnClaimsKnown.{claimed-more}
use Rattle.method_worker.proofs.method.WorkerMethodMethodReadIo.batch_submitted.Goals as goal

pub loop-reference-init : goal.loop-reference-init
loop-reference-init g c = record {
  table = c.requires.table;
  same = search rules;
  told = refl;
  relations = refl;
  marks = executes_nothing _ _ _ _ (appends-none c.args.actor.now.known);
  untouched = λ _. refl;
  claimed = λ k d less. absurd (omega (arith, less));
}

pub loop-reference-preserved : goal.loop-reference-preserved
loop-reference-preserved g c =
    let i = c.loop-reference.invariant in
    let tried = c.try_execute.ensures in record {
      table = search rules;
      same = search rules;
      told = tried.told.0 ∙ i.told;
      relations = tried.told.1 ∙ i.relations;
      marks = executes_then _ c.loop-reference.actor.known _ _ _ _ _ _ _ i.marks tried.marks;
      untouched = λ zero. absurd (omega (arith, zero));
      claimed = claimed-more _ c.loop-reference.reference-index _ c.args.actor.now.known
          c.loop-reference.actor.known c.try_execute.new.actor.known _ _ _ _ _ _
          c.loop-reference-test.true i.marks tried.marks i.claimed tried.sees;
    }

pub returns-clause-begun : goal.returns-clause-begun
returns-clause-begun g c =
    let i = c.loop-reference.invariant in
    let pushed = c.push_all-pushed.ensures in
    let refs : List WaitRef = c.args.references.now in
    let count : ℕ = c.push_all-pushed.result in
    let rest : List WaitRef = take (length refs - count) (drop count refs) in
    let left : length (drop count refs) ≡ length refs - count = length-drop count refs in
    let whole : rest ≡ drop count refs =
    take_all (length refs - count) (drop count refs) (omega arith) in
    let same : length rest ≡ length (drop count refs) = ap (λ (z : List WaitRef). length z) whole in
    let behind = c.loop-reference.auto.reference-index-end in
    record {
      count = count;
      seat_pushes = pushed.seat_pushes;
      all_or_full = dite (dec_lt count (length refs)) (λ less. inr (pushed.full less))
          (λ no. let few = pushed.count in inl (omega arith, i.untouched (omega arith)));
      rest_claimed = subst
          (λ (z : List WaitRef). All
          (λ t. OwnerKnowsClaimed t c.args.actor.now.known c.loop-reference.actor.known) z)
          (take_all c.loop-reference.reference-index rest c.loop-reference-test.false ∙ whole)
          i.claimed;
    }
