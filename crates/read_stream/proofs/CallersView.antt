-- What the inside of a stream answers, as its callers see it.
use Rattle.std.proofs.Common.{◌≡◌, ◌<◌, ℕ, List, [], ap, append-nil, arith, length}
use Rattle.std.proofs.Common.{refl, subst, sym}
use Rattle.std.proofs.lemmas.List.{length-map}
use Rattle.std.specs.Prelude.{Option, IfSome, slice_get}
use Rattle.std.specs.declared.snapshot.Snapshot.{Snapshot}
use Rattle.page_check.specs.declared.rules.PageRules.{PageRules}
use Rattle.page_check.specs.declared.world.World.{Ghosts as WorldGhosts}
use Rattle.page_check.specs.Told.{Told}
use Rattle.page_check.specs.SynchronousAnswer.{Entry, reading_of}
use Rattle.page_check.specs.IsAnswer.{IfPage, IsNext, Next as Said, Page as SaidPage}
use Rattle.page_check.specs.IsAnswer.{Stop as SaidStop}
use Rattle.aio_handle.specs.ContractViews.{ActorView}
use Rattle.read_stream.specs.declared.at_hand.AtHand.{AtHand}
use Rattle.read_stream.specs.declared.at_hand.AtHand.TheVariants as at_hand
use Rattle.read_stream.specs.declared.stream.ReadStream.{ReadStream}
use Rattle.read_stream.specs.declared.queue.QueuedBlock.{QueuedBlock}
use Rattle.read_stream.specs.declared.reads.EndedRead.{EndedRead}
use Rattle.read_stream.specs.AtHand.{answer_with, ending_at_hand}
use Rattle.stream_answer.specs.StreamAnswers.{stream_entries, stream_entry}
use Rattle.read_stream.specs.FailedReads.{MayBeUnread}
use Rattle.read_stream.specs.StreamState.{IsOpen, answer_at_hand, entries_at_open, stream_view}
use Rattle.read_stream.specs.StreamViews.{StreamView, IsActorAsLeft}
use Rattle.read_stream.specs.StreamViews.{IsSameStream, IsStreamAnswer, stream_after}
use Rattle.stream_answer.proofs.AnswerPages.{next_allowed, next_valid, page_within}

-- an actor is as it was just left
pub as_left : (left now : ActorView) → left ≡ now → IsActorAsLeft left now
as_left left now is = subst (λ (z : ActorView). IsActorAsLeft left z) is (
  refl,
  record {
    number = refl;
    config = refl;
    out = refl;
    marks = sym (append-nil left.known.marks);
    seen = λ h. omega arith;
    aims = λ e i. i;
    looks = ([], sym (append-nil left.known.looks));
  },
)

pub same_stream_later : {P : Type 0} (s t u : StreamView P) → IsSameStream s t → IsSameStream t u
    → IsSameStream s u
same_stream_later {P} s t u st tu = subst (λ (z : StreamView P). u ≡ record z {
  given = u.given;
  ending = u.ending;
  actor_is = u.actor_is;
}) st tu

pub later_by_call : {P : Type 0} (s n : StreamView P) (actor : ActorView) (x : Said P)
    → n ≡ stream_after s actor x → IsSameStream s n
later_by_call {P} s n actor x after =
    subst (λ (z : StreamView P). IsSameStream s z) (sym after) refl

ending-said : {W P : Type 0} (was now : AtHand W) (relation : ℕ) (asked : Option (QueuedBlock P))
    (oldest : Option EndedRead) → IfSome (ending_at_hand was) (λ e. now ≡ was)
    → IfSome (ending_at_hand was) (λ e. answer_with relation now asked oldest ≡ SaidStop e)
ending-said {W} (at_hand.Stopped block why) now relation asked oldest again =
    ap (λ (z : AtHand W). answer_with relation z asked oldest) again
ending-said {W} at_hand.Ended now relation asked oldest again =
    ap (λ (z : AtHand W). answer_with relation z asked oldest) again
ending-said at_hand.Nothing now relation asked oldest again = tt
ending-said (at_hand.Pinned pin) now relation asked oldest again = tt
ending-said at_hand.Lent now relation asked oldest again = tt

-- an ending is answered again
pub ending_again : {W S P : Type 0} (was : AtHand W) (n : ReadStream W S P) (x : Said P)
    → x ≡ answer_at_hand n → IfSome (ending_at_hand was) (λ e. n.at_hand ≡ was)
    → IfSome (ending_at_hand was) (λ e. x ≡ SaidStop e)
ending_again {W} {S} {P} was n x answer again =
    subst (λ (z : Said P). IfSome (ending_at_hand was) (λ e. z ≡ SaidStop e)) (sym answer)
    (ending-said was n.at_hand n.scope.relation (slice_get n.desk.now.blocks.queue.items 0)
    (slice_get n.desk.now.reads.ended.items 0) again)

-- a page that is answered is that of a block left
page_left : {P : Type 0} (told : Option Told) (s : StreamView P) (may : Entry P → Type 0)
    (x : Said P)
    → IsNext (reading_of s.settings.rules told) may (stream_entries s.relation s.blocks) s.given x
    → IfPage x (λ _. s.given < length s.blocks)
page_left told s may (SaidPage g) is =
    let within = page_within (reading_of s.settings.rules told) may
    (stream_entries s.relation s.blocks) s.given g is in
    let many = length-map s.blocks (stream_entry s.relation) in omega arith
page_left told s may (SaidStop end) is = tt

module _ {W S P : Type 0} (left : S → List (ℕ × P)) (world : WorldGhosts W) where
  pub answer_seen : (s m : ReadStream W S P) (noted : Snapshot ActorView) (now : ActorView)
      (x : Said P) → m ≡ record s { actor_is = noted } → IsOpen left world m
      → IsNext (reading_of m.scope.rules world.told) (MayBeUnread m.scope.was.value now.known)
      (entries_at_open left world m) (stream_view left m).given x
      → IsStreamAnswer world.told (stream_view left s) now x
  answer_seen s m noted now x same o next =
      let v : StreamView P = stream_view left s in
      let may : Entry P → Type 0 = MayBeUnread v.actor_was now.known in
      let entries = stream_entries v.relation v.blocks in
      let settled = subst (λ (z : PageRules). IsNext (reading_of z world.told)
      (MayBeUnread m.scope.was.value now.known) (entries_at_open left world m)
      (stream_view left m).given x) o.between.invariant.set_up.rules next in
      let here = subst (λ (z : ReadStream W S P). IsNext (reading_of z.desk.now.settings.rules
      world.told)
      (MayBeUnread z.scope.was.value now.known) (entries_at_open left world z)
      (stream_view left z).given x) same settled in
      record {
        next = here;
        valid = next_valid v.settings.rules world.told may entries v.given x here;
        marked = next_allowed v.settings.rules world.told may entries v.given x here;
        within = page_left world.told v may x here;
      }
