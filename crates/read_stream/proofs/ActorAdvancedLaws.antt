-- How far an actor advances, call by call.
use Rattle.std.proofs.Common.{◌≡◌, ◌≢◌, ℕ, List, [], ◌∷◌, ◌++◌, refl, sym, ap, ◌∙◌}
use Rattle.std.proofs.Common.{arith, append_assoc, append-nil, subst}
use Rattle.aio_word.specs.declared.Kind.{Kind}
use Rattle.aio_word.specs.declared.Kind.TheVariants as kind
use Rattle.aio_word.specs.declared.Known.{Known}
use Rattle.aio_word.specs.declared.Mark.{Mark}
use Rattle.aio_word.specs.declared.Step.{Step as Event}
use Rattle.aio_word.specs.declared.Step.TheVariants as event
use Rattle.aio_word.specs.declared.Word.{Word}
use Rattle.aio_word.specs.declared.WaitRef.{WaitRef}
use Rattle.aio_word.specs.Events.{kind_place, make_mark, wait_ref}
use Rattle.aio_word.specs.Stands.{IsIn}
use Rattle.aio_word.specs.Tokens.{claimed_mark_count, io_mark_count, failed_mark_count}
use Rattle.aio_word.proofs.ReplacedElement.{in-left}
use Rattle.aio_word.proofs.MoreMarksKeep.{mark_count-more, mark_count-place, io-more, claims-more}
use Rattle.aio_word.proofs.MoreMarksKeep.{failed-more}
use Rattle.aio_handle.specs.Execution.{ExecutesAll, CountersFollowMarks}
use Rattle.aio_handle.specs.CallEvents.{EventMade, IsByOwner, WordLoaded}
use Rattle.aio_handle.specs.LifeWords.{staged_word, unclaimed_word}
use Rattle.aio_handle.specs.declared.record.Label.{Label}
use Rattle.aio_batch.specs.NextSubmission.{IsNextSubmission}
use Rattle.aio_waitref.specs.WaitOutcomes.{WaitsAndTakes}
use Rattle.read_stream.specs.ActorProgress.{AllClaimsCompleted, ActorAdvanced, MarkedSince}

pub completed_nothing : AllClaimsCompleted []
completed_nothing = record { io = λ t. refl; shared = λ t. refl; all = refl }

completed-more : (xs ys : List Mark) → AllClaimsCompleted xs → AllClaimsCompleted ys
    → AllClaimsCompleted (xs ++ ys)
completed-more xs ys a b = record {
  io = λ t. let u = a.io t in let v = b.io t in
      omega (arith, mark_count-more t 4 xs ys, mark_count-more t 3 xs ys);
  shared = λ t. let u = a.shared t in let v = b.shared t in
      omega (arith, mark_count-more t 5 xs ys, mark_count-more t 3 xs ys);
  all = let u : io_mark_count xs ≡ claimed_mark_count xs = a.all in
      let v : io_mark_count ys ≡ claimed_mark_count ys = b.all in
      omega (arith, io-more xs ys, claims-more xs ys);
}

pays-nothing : (reads faults : ℕ) → CountersFollowMarks reads reads faults faults []
pays-nothing reads faults =
    record { read_each = λ _. omega arith; fault_each = λ _. omega arith }

-- what the actor knows of aims, where it learnt no other, and where it learnt one
pub aims-same : (p q : Known) → q.aims ≡ p.aims → (x : WaitRef × List ℕ) → IsIn x p.aims → IsIn x q.aims
aims-same p q e x i = subst (λ (z : List (WaitRef × List ℕ)). IsIn x z) (sym e) i

pub aims-more : (p q : Known) (t : WaitRef × List ℕ) → q.aims ≡ p.aims ++ t ∷ []
    → (x : WaitRef × List ℕ) → IsIn x p.aims → IsIn x q.aims
aims-more p q t e x i =
    subst (λ (z : List (WaitRef × List ℕ)). IsIn x z) (sym e) (in-left x p.aims (t ∷ []) i)

pub advanced_nothing : (p : Known) (reads faults : ℕ) → ActorAdvanced p p reads reads faults faults
advanced_nothing p reads faults = record {
  more = [];
  number = refl;
  config = refl;
  marks = sym (append-nil p.marks);
  aims = λ x i. i;
  claims_completed = completed_nothing;
  counters_follow = pays-nothing reads faults;
}

pub advanced_then : (p q r : Known) (reads reads' reads'' faults faults' faults'' : ℕ)
    → ActorAdvanced p q reads reads' faults faults'
    → ActorAdvanced q r reads' reads'' faults' faults''
    → ActorAdvanced p r reads reads'' faults faults''
advanced_then p q r reads reads' reads'' faults faults' faults'' a b = record {
  more = a.more ++ b.more;
  number = b.number ∙ a.number;
  config = b.config ∙ a.config;
  marks = b.marks
      ∙ (ap (λ (z : List Mark). z ++ b.more) a.marks ∙ append_assoc p.marks a.more b.more);
  aims = λ x i. b.aims x (a.aims x i);
  claims_completed = completed-more a.more b.more a.claims_completed b.claims_completed;
  counters_follow = record {
    read_each = λ lt.
        let m = io-more a.more b.more in
        let y = b.counters_follow.read_each lt in
        let x = a.counters_follow.read_each (omega arith) in omega arith;
    fault_each = λ lt.
        let m = failed-more a.more b.more in
        let y = b.counters_follow.fault_each lt in
        let x = a.counters_follow.fault_each (omega arith) in omega arith;
  };
}

-- what an actor takes up on the way
pub advanced_taking_up : (p q : Known) (reads reads' faults faults' : ℕ)
    → ExecutesAll [] p q reads reads' faults faults' → ActorAdvanced p q reads reads' faults faults'
advanced_taking_up p q reads reads' faults faults' a = record {
  more = a.more;
  number = a.grows.number;
  config = a.grows.config;
  marks = a.grows.marks;
  aims = a.grows.aims;
  claims_completed = record { io = a.claims_completed.io; shared = a.claims_completed.shared; all = a.claims_completed.all };
  counters_follow = a.counters_follow;
}

-- an owner's mark is nobody's claim
completed-one : (t : WaitRef) (k : Kind) → kind_place k ≢ 3 → kind_place k ≢ 4 → kind_place k ≢ 5
    → io_mark_count (make_mark t k ∷ []) ≡ claimed_mark_count (make_mark t k ∷ [])
    → AllClaimsCompleted (make_mark t k ∷ [])
completed-one t k no3 no4 no5 all = record {
  io = λ u. mark_count-place u t 4 k [] no4 (omega arith)
      ∙ sym (mark_count-place u t 3 k [] no3 (omega arith));
  shared = λ u. mark_count-place u t 5 k [] no5 (omega arith)
      ∙ sym (mark_count-place u t 3 k [] no3 (omega arith));
  all = all;
}

advanced-mark : (t : WaitRef) (k : Kind) (p q : Known) (reads faults : ℕ)
    → q.number ≡ p.number → q.config ≡ p.config → q.marks ≡ p.marks ++ make_mark t k ∷ []
    → ((x : WaitRef × List ℕ) → IsIn x p.aims → IsIn x q.aims)
    → AllClaimsCompleted (make_mark t k ∷ []) → io_mark_count (make_mark t k ∷ []) ≡ 0
    → failed_mark_count (make_mark t k ∷ []) ≡ 0 → ActorAdvanced p q reads reads faults faults
advanced-mark t k p q reads faults number config marks aims claims_completed no_io no_failure =
    record {
      more = make_mark t k ∷ [];
      number = number;
      config = config;
      marks = marks;
      aims = aims;
      claims_completed = claims_completed;
      counters_follow = record { read_each = λ _. omega arith; fault_each = λ _. omega arith };
    }

advanced-same : (p q : Known) (reads faults : ℕ) → q.number ≡ p.number → q.config ≡ p.config
    → q.marks ≡ p.marks → q.aims ≡ p.aims → ActorAdvanced p q reads reads faults faults
advanced-same p q reads faults number config marks aims = record {
  more = [];
  number = number;
  config = config;
  marks = marks ∙ sym (append-nil p.marks);
  aims = aims-same p q aims;
  claims_completed = completed_nothing;
  counters_follow = pays-nothing reads faults;
}

-- an event of the owner's
pub advanced_made : (e : Event) (h : ℕ) (w w' : Word) (aim : List ℕ) (p q : Known)
    (reads faults : ℕ)
    → IsByOwner e → EventMade e h w w' aim p q → ActorAdvanced p q reads reads faults faults
advanced_made event.HandOut h w w' aim p q reads faults own m = advanced-same p q reads faults
    (ap (λ (z : Known). z.number) m.is) (ap (λ (z : Known). z.config) m.is)
    (ap (λ (z : Known). z.marks) m.is) (ap (λ (z : Known). z.aims) m.is)
advanced_made event.Release h w w' aim p q reads faults own m = advanced-same p q reads faults
    (ap (λ (z : Known). z.number) m.is) (ap (λ (z : Known). z.config) m.is)
    (ap (λ (z : Known). z.marks) m.is) (ap (λ (z : Known). z.aims) m.is)
advanced_made event.Define h w w' aim p q reads faults own m =
    advanced-mark (wait_ref h w.generation) kind.Defined p q reads faults
    (ap (λ (z : Known). z.number) m.is) (ap (λ (z : Known). z.config) m.is)
    (ap (λ (z : Known). z.marks) m.is)
    (aims-same p q (ap (λ (z : Known). z.aims) m.is))
    (completed-one (wait_ref h w.generation) kind.Defined (λ e. omega arith) (λ e. omega arith)
    (λ e. omega arith) refl) refl refl
advanced_made event.Stage h w w' aim p q reads faults own m =
    advanced-mark (wait_ref h w.generation) kind.Staged p q reads faults
    (ap (λ (z : Known). z.number) m.is) (ap (λ (z : Known). z.config) m.is)
    (ap (λ (z : Known). z.marks) m.is)
    (aims-same p q (ap (λ (z : Known). z.aims) m.is))
    (completed-one (wait_ref h w.generation) kind.Staged (λ e. omega arith) (λ e. omega arith)
    (λ e. omega arith) refl) refl refl
advanced_made event.Submit h w w' aim p q reads faults own m =
    advanced-mark (wait_ref h w.generation) kind.Submitted p q reads faults
    (ap (λ (z : Known). z.number) m.is) (ap (λ (z : Known). z.config) m.is)
    (ap (λ (z : Known). z.marks) m.is)
    (aims-more p q (wait_ref h w.generation, aim) (ap (λ (z : Known). z.aims) m.is))
    (completed-one (wait_ref h w.generation) kind.Submitted (λ e. omega arith) (λ e. omega arith)
    (λ e. omega arith) refl) refl refl
advanced_made event.Local h w w' aim p q reads faults own m =
    advanced-mark (wait_ref h w.generation) (kind.Local w.class) p q reads faults
    (ap (λ (z : Known). z.number) m.is) (ap (λ (z : Known). z.config) m.is)
    (ap (λ (z : Known). z.marks) m.is)
    (aims-same p q (ap (λ (z : Known). z.aims) m.is))
    (completed-one (wait_ref h w.generation) (kind.Local w.class) (λ e. omega arith)
    (λ e. omega arith)
    (λ e. omega arith) refl) refl refl
advanced_made event.Reclaim h w w' aim p q reads faults own m =
    advanced-mark (wait_ref h w.generation) kind.Reclaimed p q reads faults
    (ap (λ (z : Known). z.number) m.is) (ap (λ (z : Known). z.config) m.is)
    (ap (λ (z : Known). z.marks) m.is)
    (aims-same p q (ap (λ (z : Known). z.aims) m.is))
    (completed-one (wait_ref h w.generation) kind.Reclaimed (λ e. omega arith) (λ e. omega arith)
    (λ e. omega arith) refl) refl refl
advanced_made event.Claim h w w' aim p q reads faults own m = absurd own
advanced_made (event.Io class) h w w' aim p q reads faults own m = absurd own
advanced_made event.Shared h w w' aim p q reads faults own m = absurd own

-- a mark that stands stays
pub since_grown : (was p q : Known) (m : Mark) (more : List Mark) → q.marks ≡ p.marks ++ more
    → MarkedSince was p m → MarkedSince was q m
since_grown was p q m more grown s = (
  s.0 ++ more,
  grown ∙ (ap (λ (z : List Mark). z ++ more) s.1 ∙ append_assoc was.marks s.0 more),
  in-left m s.0 more s.2,
)

pub since_later : (was p q : Known) (m : Mark) (reads reads' faults faults' : ℕ)
    → MarkedSince was p m → ActorAdvanced p q reads reads' faults faults' → MarkedSince was q m
since_later was p q m reads reads' faults faults' s w = since_grown was p q m w.more w.marks s

-- one I/O of a batch was submitted
pub advanced_submitting : {R : Type 0} (aim_in : R → List ℕ) (before after : List (WaitRef × R))
    (t : WaitRef) (p q : Known) (a b d e : ℕ) → IsNextSubmission aim_in before after t p q a b d e
    → ActorAdvanced p q a b d e
advanced_submitting aim_in before after t p q a b d e n =
    advanced_then p n.between q a a b d d e
    (advanced_made event.Submit t.handle (staged_word t.generation) (unclaimed_word t.generation)
    (aim_in n.token.1) p n.between a d tt n.event_made)
    (advanced_taking_up n.between q a b d e n.begun)

-- a load
pub advanced_looking : (h : ℕ) (w : Word) (p q : Known) (reads faults : ℕ) → WordLoaded h w p q
    → ActorAdvanced p q reads reads faults faults
advanced_looking h w p q reads faults l = advanced-same p q reads faults
    (ap (λ (z : Known). z.number) l.is) (ap (λ (z : Known). z.config) l.is)
    (ap (λ (z : Known). z.marks) l.is) (ap (λ (z : Known). z.aims) l.is)

-- an owner waited for its I/O, and took the result
pub advanced_waiting : (t : WaitRef) (p q : Known) (a b d e : ℕ) (l : Label)
    → WaitsAndTakes t p q a b d e l → ActorAdvanced p q a b d e
advanced_waiting t p q a b d e l w =
    let o = w.result_taken in
    advanced_then p w.between q a b b d e e (advanced_taking_up p w.between a b d e w.execution)
    (advanced_then w.between o.between q b b b e e e
    (advanced_looking t.handle o.found w.between o.between b e o.word_load)
    (advanced_made event.Local t.handle _ _ [] o.between q b e tt o.event_made))

pub advanced-from : (p p' q : Known) (a b d e : ℕ) → p ≡ p' → ActorAdvanced p q a b d e
    → ActorAdvanced p' q a b d e
advanced-from p p' q a b d e same w = subst (λ (z : Known). ActorAdvanced z q a b d e) same w
