-- Calls that execute incarnations, one after the other.
use Rattle.std.proofs.Common.{◌≡◌, ℕ, List, [], ◌∷◌, ◌++◌, refl, subst, append_assoc, arith}
use Rattle.aio_word.specs.declared.Mark.{Mark}
use Rattle.aio_word.specs.declared.Known.{Known}
use Rattle.aio_word.specs.declared.WaitRef.{WaitRef}
use Rattle.aio_word.specs.declared.Kind.TheVariants as kind
use Rattle.aio_word.specs.declared.Step.TheVariants as event
use Rattle.aio_word.specs.Tokens.{AppendsMarks, ClaimsAreCompleted, io_mark_count}
use Rattle.aio_word.specs.Tokens.{failed_mark_count}
use Rattle.aio_word.specs.Tokens.{make_mark}
use Rattle.aio_word.proofs.MoreMarksKeep.{claims-completed-more, io-more, failed-more}
use Rattle.aio_handle.specs.Execution.{ExecutesAll}
use Rattle.aio_handle.specs.LifeWords.{unclaimed_word, claimed_word}
use Rattle.aio_handle.specs.CallEvents.{EventMade}
use Rattle.aio_handle.proofs.ListsGrow.{claim-grows, appends-then, claims-completed-none}

-- an actor that only looked has executed nothing
pub executes_nothing : (p q : Known) (reads faults : ℕ) → AppendsMarks p q []
    → ExecutesAll [] p q reads reads faults faults
executes_nothing p q reads faults g = record {
  more = [];
  grows = g;
  claims_completed = claims-completed-none;
  counters_follow = record { read_each = λ _. omega arith; fault_each = λ _. omega arith };
}

-- two calls that execute, one after the other
pub executes_then_held : (held : List Mark) (p q r : Known)
    (reads reads' reads'' faults faults' faults'' : ℕ)
    → ExecutesAll held p q reads reads' faults faults'
    → ExecutesAll [] q r reads' reads'' faults' faults''
    → ExecutesAll held p r reads reads'' faults faults''
executes_then_held held p q r reads reads' reads'' faults faults' faults'' a b = record {
  more = a.more ++ b.more;
  grows = appends-then p q r a.more b.more a.grows b.grows;
  claims_completed = subst (λ (z : List Mark). ClaimsAreCompleted z) (append_assoc held a.more b.more)
      (claims-completed-more (held ++ a.more) b.more a.claims_completed b.claims_completed);
  counters_follow = record {
    read_each = λ lt.
        let m = io-more a.more b.more in
        let y = b.counters_follow.read_each lt in
        let x = a.counters_follow.read_each (omega arith) in omega arith;
    fault_each = λ lt.
        let m = failed-more a.more b.more in
        let y = b.counters_follow.fault_each lt in
        let x = a.counters_follow.fault_each (omega arith) in omega arith;
  };
}

pub executes_then : (p q r : Known) (reads reads' reads'' faults faults' faults'' : ℕ)
    → ExecutesAll [] p q reads reads' faults faults'
    → ExecutesAll [] q r reads' reads'' faults' faults''
    → ExecutesAll [] p r reads reads'' faults faults''
executes_then = executes_then_held []

-- a claim that was won, and a call that ends what was claimed
pub claim_then_executes : (t u : WaitRef) (aim : List ℕ) (p q r : Known)
    (reads reads' faults faults' : ℕ) → u ≡ t
    → EventMade event.Claim t.handle (unclaimed_word t.generation)
    (claimed_word t.generation) aim p q
    → ExecutesAll (make_mark u kind.Claimed ∷ []) q r reads reads' faults faults'
    → ExecutesAll [] p r reads reads' faults faults'
claim_then_executes t u aim p q r reads reads' faults faults' same m a' =
    let a = subst
    (λ (z : WaitRef). ExecutesAll (make_mark z kind.Claimed ∷ []) q r reads reads' faults faults')
    same a' in
    record {
      more = make_mark t kind.Claimed ∷ a.more;
      grows = appends-then p q r (make_mark t kind.Claimed ∷ []) a.more
          (claim-grows t.handle t.generation aim p q m) a.grows;
      claims_completed = a.claims_completed;
      counters_follow = record {
        read_each = λ lt.
            let n = io-more (make_mark t kind.Claimed ∷ []) a.more in
            let z : io_mark_count (make_mark t kind.Claimed ∷ []) ≡ 0 = refl in
            let x = a.counters_follow.read_each lt in omega arith;
        fault_each = λ lt.
            let n = failed-more (make_mark t kind.Claimed ∷ []) a.more in
            let z : failed_mark_count (make_mark t kind.Claimed ∷ []) ≡ 0 = refl in
            let x = a.counters_follow.fault_each lt in omega arith;
      };
    }

-- what was executed, and looks after it
pub executes_looks : (p q r : Known) (reads reads' faults faults' : ℕ)
    → ExecutesAll [] p q reads reads' faults faults' → AppendsMarks q r []
    → ExecutesAll [] p r reads reads' faults faults'
executes_looks p q r reads reads' faults faults' a g =
    executes_then p q r reads reads' reads' faults faults' faults' a
    (executes_nothing q r reads' faults' g)
