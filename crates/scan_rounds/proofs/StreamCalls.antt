-- What a stream answers some calls later, and how many pages it has given then.
use Rattle.std.proofs.Common.{◌≡◌, ℕ, ◌+◌, ap, ◌∙◌, subst}
use Rattle.std.specs.Prelude.{Option}
use Rattle.page_check.specs.Told.{Told}
use Rattle.aio_handle.specs.ContractViews.{ActorView}
use Rattle.stream_answer.specs.StreamAnswers.{synchronous_answer, pages_given}
use Rattle.stream_answer.specs.declared.answer.Next.{Next as StreamNext}
use Rattle.read_stream.specs.StreamViews.{StreamView, IsSameStream, IsStreamAnswer, stream_after}

-- the stream as it was, with what it has given since, and its relation by this name
abbrev pub later_stream : StreamView (Unit {0}) → ℕ → ℕ → StreamView (Unit {0})
later_stream s r given = record s { relation = r; given = given }

-- what the stream answers some calls later
pub at_place : (s t : StreamView (Unit {0})) (told : Option Told) (now : ActorView) (r : ℕ)
    (a : StreamNext (Unit {0})) → IsSameStream s t → s.relation ≡ r
    → IsStreamAnswer told t now (synchronous_answer t.relation a)
    → IsStreamAnswer told (later_stream s r t.given) now (synchronous_answer r a)
at_place s t told now r a same place is =
    let here = subst (λ (z : StreamView (Unit {0})). IsStreamAnswer told z now
    (synchronous_answer z.relation a)) same is in
    subst (λ (n : ℕ). IsStreamAnswer told (later_stream s n t.given) now (synchronous_answer n a))
    place
    (record { next = here.next; valid = here.valid; marked = here.marked; within = here.within })

-- how many pages it has given then
pub given_by_call : (s t n : StreamView (Unit {0})) (now : ActorView) (r : ℕ)
    (a : StreamNext (Unit {0})) → IsSameStream s t → s.relation ≡ r
    → n ≡ stream_after t now (synchronous_answer t.relation a)
    → n.given ≡ t.given + pages_given (synchronous_answer r a)
given_by_call s t n now r a same place after =
    ap (λ (z : StreamView (Unit {0})). z.given) after
    ∙ ap (λ (m : ℕ). t.given + pages_given (synchronous_answer m a))
    (ap (λ (z : StreamView (Unit {0})). z.relation) same ∙ place)
