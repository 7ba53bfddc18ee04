use Rattle.std.proofs.Common.{[], ◌∷◌, sym, ◌∙◌, subst, arith, Option}
use Rattle.std.specs.Prelude.{IfSome}
use Rattle.aio_word.specs.declared.WaitRef.{WaitRef}
use Rattle.aio_word.specs.declared.Class.TheVariants.{Whole}
use Rattle.aio_word.specs.declared.Kind.TheVariants as kind
use Rattle.aio_word.specs.Tokens.{make_mark}
use Rattle.aio_handle.specs.Execution.{ExecutesAll}
use Rattle.aio_handle.proofs.ListsGrow.{claims-completed-one}
use Rattle.aio_fixtures.specs.declared.empty_io.EmptyIo.{EmptyIo}
use Rattle.aio_fixtures.proofs.executor.WholeExecutorExecuteEmptyIo.run.Goals as goal

pub returns-clause-marks : goal.returns-clause-marks
returns-clause-marks g c =
    let t : WaitRef = c.in-Some.claimed.0 in
    subst
    (λ (o : Option (WaitRef × EmptyIo)). IfSome o (λ x. ExecutesAll
    (make_mark x.0 kind.Claimed ∷ [])
    c.args.actor.now.known c.complete_as.new.actor.known c.args.self.now.calls
    c.saturating_add-self.result 0 0))
    (sym (sym c.take.ensures.value ∙ c.in-Some.is))
    record {
      more = make_mark t (kind.Io Whole) ∷ make_mark t kind.Shared ∷ [];
      grows = c.complete_as.ensures.marks;
      claims_completed = claims-completed-one Whole t.handle t.generation;
      counters_follow = record {
        read_each = λ below. let e = c.saturating_add-self.ensures in omega arith;
        fault_each = λ _. omega arith;
      };
    }
