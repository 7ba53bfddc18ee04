-- A stream whose actor has advanced, and the answers that it keeps.
use Rattle.std.proofs.Common.{refl, ◌≡◌, ℕ, List, [], subst, ap, sym, ◌∙◌, arith}
use Rattle.std.specs.Prelude.{Option, Some, None, IfSome}
use Rattle.std.specs.declared.snapshot.Snapshot.{Snapshot}
use Rattle.page_check.specs.declared.world.World.{Ghosts as WorldGhosts}
use Rattle.aio_word.specs.declared.Config.{Config}
use Rattle.aio_word.specs.Tokens.{AppendsMarks}
use Rattle.aio_handle.specs.Execution.{ExecutesAll}
use Rattle.aio_handle.specs.ContractViews.{ActorView, IsSameActor}
use Rattle.page_check.specs.SynchronousAnswer.{Ending, reading_of}
use Rattle.page_check.specs.IsAnswer.{IsNext, Next as Said, Stop as SaidStop}
use Rattle.aio_word.specs.declared.Known.{Known}
use Rattle.read_stream.specs.declared.at_hand.AtHand.{AtHand}
use Rattle.read_stream.specs.declared.reads.Reads.{Reads}
use Rattle.read_stream.specs.declared.scope.Scope.{Scope}
use Rattle.read_stream.specs.declared.stream.ReadStream.{ReadStream}
use Rattle.stream_answer.specs.StreamAnswers.{stream_entries, pages_given}
use Rattle.read_stream.specs.FailedReads.{MayBeUnread}
use Rattle.read_stream.specs.StreamViews.{answered_stop, stream_after, IsActorAsLeft}
use Rattle.read_stream.specs.StreamIos.{Issued}
use Rattle.read_stream.specs.ActorProgress.{ActorAdvanced}
use Rattle.read_stream.specs.AtHand.{ending_at_hand, lent_count}
use Rattle.read_stream.specs.StreamState.{IsBetweenCalls, IsOpen}
use Rattle.read_stream.specs.StreamState.{entries_at_open, stream_view}
use Rattle.read_stream.specs.Changes.{IsSameReading, with_at_hand}
use Rattle.read_stream.specs.StreamState.{returned_count}
use Rattle.read_stream.proofs.ActorAdvancedLaws.{advanced_taking_up}
use Rattle.read_stream.proofs.ReadsMatchRuns.{reads-later}
use Rattle.read_stream.proofs.SubmitKeepsIssued.{issued-taking-up}
use Rattle.read_stream.proofs.StreamInvariantLaws.{same_reading_refl}
use Rattle.read_stream.proofs.UnreadCauses.{may_later, next_wider}

-- an actor that has only looked has advanced by nothing
looked : (p q : Known) → AppendsMarks p q [] → ExecutesAll [] p q 0 0 0 0
looked p q a = record {
  more = [];
  grows = a;
  claims_completed = record { owners = λ t. refl; io = λ t. refl; shared = λ t. refl; all = refl };
  counters_follow = record { read_each = λ _. refl; fault_each = λ _. omega arith };
}

some-wider : (o : Option Ending) (A B : Ending → Type 0) → ((e : Ending) → A e → B e) → IfSome o A
    → IfSome o B
some-wider None A B f is = tt
some-wider (Some e) A B f is = f e is

-- a stream reads the same, whatever it has at hand
pub found_kept : {W S P : Type 0} (s t n : ReadStream W S P) (h : AtHand W) → IsSameReading s t
    → n ≡ with_at_hand t h → IsSameReading s n
found_kept {W} {S} {P} s t n h k is =
    subst (λ (z : ReadStream W S P). IsSameReading s z) (sym is)
    (record { desk = k.desk; scope = k.scope; source_was = k.source_was; settings = k.settings })

module _ {W S P : Type 0} (left : S → List (ℕ × P)) (world : WorldGhosts W) where
  -- the same answer of the same stream, behind so many pages
  pub next_answer_kept : (q : Known) (s n : ReadStream W S P) (given : ℕ) (x : Said P)
      → IsSameReading s n → returned_count left n ≡ given
      → IsNext (reading_of n.scope.rules world.told) (MayBeUnread n.scope.was.value q)
      (stream_entries n.scope.relation (left n.source_was.value)) (returned_count left n) x
      → IsNext (reading_of s.scope.rules world.told) (MayBeUnread s.scope.was.value q)
      (stream_entries s.scope.relation (left s.source_was.value)) given x
  next_answer_kept q s n given x k so_many is =
      subst (λ (z : ℕ). IsNext (reading_of s.scope.rules world.told) (MayBeUnread s.scope.was.value q)
      (stream_entries s.scope.relation (left s.source_was.value)) z x) so_many
      (subst (λ z. IsNext (reading_of s.scope.rules world.told) (MayBeUnread s.scope.was.value q)
      (stream_entries s.scope.relation (left z.value)) (returned_count left n) x) k.source_was
      (subst (λ (z : Scope W). IsNext (reading_of z.rules world.told) (MayBeUnread z.was.value q)
      (stream_entries z.relation (left n.source_was.value)) (returned_count left n) x) k.scope is))

  -- the stream keeps what its actor knows
  pub between_known : (p : Known) (s : ReadStream W S P) (actor : Snapshot ActorView)
      → IsBetweenCalls left world p s
      → IsBetweenCalls left world p (record s { actor_is = actor })
  between_known p s actor b =
      record {
        invariant = record { set_up = b.invariant.set_up; records = b.invariant.records };
        few_ios = b.few_ios;
        running = λ going. (let g = b.running going in record {
          position = g.position;
          reads = g.reads;
          wants = g.wants;
          plan = g.plan;
        });
        right = b.right;
        stop_answer = b.stop_answer;
      }

  -- the stream after a call, as its callers see it
  pub same_view : (s n : ReadStream W S P) (actor_is : Snapshot ActorView) (actor : ActorView)
      (answer : Said P) → IsSameReading s n → returned_count left n ≡ (stream_view left s).given
      → pages_given answer ≡ lent_count n.at_hand
      → ending_at_hand n.at_hand ≡ answered_stop answer → actor_is.value ≡ actor
      → stream_view left (record n { actor_is = actor_is })
      ≡ stream_after (stream_view left s) actor answer
  same_view s n actor_is actor answer k given pages ending is = rw (
    given,
    sym pages,
    ending,
    is,
    k.desk,
    k.scope,
    k.source_was,
    k.settings,
  ) refl

  -- the stream is open after a call that left its actor so
  pub open_after : (s n : ReadStream W S P) (now : ActorView) (noted : Snapshot ActorView)
      → IsSameReading s n → IsSameActor s.actor_is.value now
      → IsBetweenCalls left world now.known n → noted.value ≡ now
      → IsOpen left world s
      → IsOpen left world (record n { actor_is = noted })
  open_after s n now noted k same between is o =
      let was : n.scope.was.value ≡ s.scope.was.value =
      ap (λ (z : Scope W). z.was.value) k.scope in
      let same' : IsSameActor s.actor_is.value noted.value =
      subst (λ (z : ActorView). IsSameActor s.actor_is.value z) (sym is) same in
      let backends = ap (λ (z : Config). z.backends) same'.1 in record {
        same = (
          same'.0 ∙ (o.same.0 ∙ sym (ap (λ (z : ActorView). z.table) was)),
          same'.1 ∙ (o.same.1 ∙ sym (ap (λ (z : ActorView). z.known.config) was)),
          same'.2 ∙ (o.same.2 ∙ sym (ap (λ (z : ActorView). z.known.number) was)),
        );
        backend = let b = o.backend in let number = same'.2 in omega arith;
        between = between_known noted.value.known n noted
            (subst (λ (z : ActorView). IsBetweenCalls left world z.known n)
            (sym is) between);
      }

  -- the same stream, where its actor has only looked
  between_looked : (p q : Known) (s : ReadStream W S P) → AppendsMarks p q []
      → IsBetweenCalls left world p s
      → IsBetweenCalls left world q s
  between_looked p q s a b =
      let all : ExecutesAll [] p q 0 0 0 0 = looked p q a in
      let w : ActorAdvanced p q 0 0 0 0 = advanced_taking_up p q 0 0 0 0 all in
      let reads : Reads W = s.desk.now.reads in
      let v = b.invariant.records in
      let issued : Issued s.scope world q reads =
      issued-taking-up s.scope [] world p q reads 0 0 0 0 all v.issued in
      let was : ActorView = s.scope.was.value in
      record {
        invariant = record {
          set_up = b.invariant.set_up;
          records = record {
            issued = issued;
            batch_within = v.batch_within;
            record_total = v.record_total;
          };
        };
        few_ios = b.few_ios;
        running = λ going. (let g = b.running going in record {
          position = g.position;
          reads = record {
            runs = g.reads.runs;
            reads_for = reads-later s.scope p q reads reads _ g.reads.runs w.aims refl refl
                refl refl g.reads.reads_for;
            in_order = g.reads.in_order;
          };
          wants = g.wants;
          plan = g.plan;
        });
        right = b.right;
        stop_answer = some-wider (ending_at_hand s.at_hand) _ _
            (λ e is. next_wider (reading_of s.scope.rules world.told) (MayBeUnread was p)
            (MayBeUnread was q) (entries_at_open left world s) (returned_count left s) (SaidStop e)
            (may_later was p q 0 0 0 0 w) is) b.stop_answer;
      }

  pub open_looked : (s : ReadStream W S P) (now : ActorView) (noted : Snapshot ActorView)
      → IsActorAsLeft s.actor_is.value now → noted.value ≡ now
      → IsOpen left world s
      → IsOpen left world (record s { actor_is = noted })
  open_looked s now noted a is o = open_after s s now noted (same_reading_refl s)
      (a.0, a.1.config, a.1.number)
      (between_looked s.actor_is.value.known now.known s a.1 o.between) is o
