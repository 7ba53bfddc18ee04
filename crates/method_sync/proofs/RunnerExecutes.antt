-- What a runner takes up: the one incarnation that it was handed.
use Rattle.std.proofs.Common.{◌≡◌, ℕ, ◌≤◌, List, [], ◌∷◌, Option, refl, sym, ◌∙◌}
use Rattle.std.proofs.Common.{subst, arith}
use Rattle.page_check.specs.Told.{Told}
use Rattle.aio_disk.specs.Counts.{count_plus, CountRose}
use Rattle.aio_word.specs.declared.Class.{Class}
use Rattle.aio_word.specs.declared.Class.TheVariants.{Unended, Whole, Short, Failed}
use Rattle.aio_word.specs.declared.WaitRef.{WaitRef}
use Rattle.aio_word.specs.declared.Known.{Known}
use Rattle.aio_word.specs.declared.Kind.TheVariants as kind
use Rattle.aio_word.specs.Tokens.{AppendsMarks, make_mark}
use Rattle.aio_handle.specs.Execution.{ExecutesAll, CountersFollowMarks}
use Rattle.aio_handle.specs.LifeWords.{claimed_word, executed_word, completed_word}
use Rattle.aio_handle.specs.CallEvents.{EventMade}
use Rattle.aio_handle.proofs.ListsGrow.{claims-completed-one, appends-then, io-grows, share-grows}
use Rattle.aio_callback.specs.ReadIoView.{ReadIoView, IsCompletedRead, record_aim}
use Rattle.read_callbacks.specs.Finishes.{Finish, FinishesGrew}
use Rattle.aio_callback.specs.Finishes.{all_finishes, record_reference}
use Rattle.method_sync.specs.Executed.{IsExecutedAs}
use Rattle.aio_word.specs.declared.Step.TheVariants as event

-- one read, which failed only where the count of faults rose
pays-one : (class : Class) (t : WaitRef) (reads reads' faults faults' : ℕ)
    → reads' ≡ count_plus 1 reads → faults ≤ faults' → (class ≡ Failed → CountRose faults faults')
    → CountersFollowMarks reads reads' faults faults'
    (make_mark t (kind.Io class) ∷ make_mark t kind.Shared ∷ [])
pays-one Unended t reads reads' faults faults' one later failed =
    record { read_each = λ lt. omega arith; fault_each = λ lt. omega arith }
pays-one Whole t reads reads' faults faults' one later failed =
    record { read_each = λ lt. omega arith; fault_each = λ lt. omega arith }
pays-one Short t reads reads' faults faults' one later failed =
    record { read_each = λ lt. omega arith; fault_each = λ lt. omega arith }
pays-one Failed t reads reads' faults faults' one later failed =
    record { read_each = λ lt. omega arith; fault_each = λ lt. let r = failed refl in omega arith }

takes-one : (class : Class) (t : WaitRef) (p q : Known) (reads reads' faults faults' : ℕ)
    → AppendsMarks p q (make_mark t (kind.Io class) ∷ make_mark t kind.Shared ∷ [])
    → reads' ≡ count_plus 1 reads → faults ≤ faults' → (class ≡ Failed → CountRose faults faults')
    → ExecutesAll (make_mark t kind.Claimed ∷ []) p q reads reads' faults faults'
takes-one class t p q reads reads' faults faults' grows one later failed = record {
  more = make_mark t (kind.Io class) ∷ make_mark t kind.Shared ∷ [];
  grows = grows;
  claims_completed = claims-completed-one class t.handle t.generation;
  counters_follow = pays-one class t reads reads' faults faults' one later failed;
}

-- a read that was executed, completed and shared
pub executed-as : (told : Option Told) (t : WaitRef) (aim : List ℕ) (p m q : Known) (class : Class)
    (r : ReadIoView) (before after : Option (List Finish)) (faults faults' : ℕ)
    → EventMade (event.Io class) t.handle (claimed_word t.generation)
    (executed_word class t.generation) [] p m
    → EventMade event.Shared t.handle (executed_word r.label.ended t.generation)
    (completed_word r.label.ended t.generation) [] m q
    → r.label.ended ≡ class → record_aim r ≡ aim → record_reference r ≡ t → IsCompletedRead told r
    → FinishesGrew before after (all_finishes r) → (class ≡ Failed → CountRose faults faults')
    → IsExecutedAs told t aim p q before after faults faults'
executed-as told t aim p m q class r before after faults faults' io shared same aimed named done
    handed failed = record {
      read_io = r;
      aim_is = aimed;
      reference_is = named;
      completed_read = done;
      marks_grow = appends-then p m q (make_mark t (kind.Io r.label.ended) ∷ [])
          (make_mark t kind.Shared ∷ [])
          (subst (λ (z : Class). AppendsMarks p m (make_mark t (kind.Io z) ∷ [])) (sym same)
          (io-grows class t.handle t.generation p m io))
          (share-grows r.label.ended t.handle t.generation m q shared);
      finishes_grow = handed;
      failure_counted = λ e. failed (sym same ∙ e);
    }

-- and what it took up
pub takes-executed : (told : Option Told) (t : WaitRef) (aim : List ℕ) (p q : Known)
    (before after : Option (List Finish)) (reads reads' faults faults' : ℕ)
    → IsExecutedAs told t aim p q before after faults faults' → reads' ≡ count_plus 1 reads
    → faults ≤ faults' → ExecutesAll (make_mark t kind.Claimed ∷ []) p q reads reads' faults faults'
takes-executed told t aim p q before after reads reads' faults faults' x one later =
    takes-one x.read_io.label.ended t p q reads reads' faults faults' x.marks_grow one later
    x.failure_counted
