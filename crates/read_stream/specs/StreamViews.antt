-- A stream as its callers see it, and what a call of it answers and changes.
use Rattle.std.specs.Prelude.{◌≡◌, ℕ, ◌+◌, ◌<◌, List, [], Option, Some, None, length}
use Rattle.page_check.specs.Told.{Told}
use Rattle.page_check.specs.SynchronousAnswer.{Ending, AllowsMark, IsValidUnlessDamaged}
use Rattle.page_check.specs.SynchronousAnswer.{reading_of}
use Rattle.page_check.specs.IsAnswer.{IfGiven, IfPage, IsNext, Next as Said, Page as SaidPage}
use Rattle.page_check.specs.IsAnswer.{Stop as SaidStop}
use Rattle.aio_word.specs.Tokens.{AppendsMarks, failed_result_count}
use Rattle.aio_handle.specs.ContractViews.{ActorView, IsSameActor}
use Rattle.aio_handle.specs.declared.execute.Execute.{Ghosts as ExecuteGhosts}
use Rattle.aio_batch.specs.declared.method.Method.{Ghosts as MethodGhosts}
use Rattle.aio_callback.specs.ReadIoView.{ReadIoView}
use Rattle.read_stream.specs.declared.desk.Settings.{Settings}
use Rattle.stream_answer.specs.declared.answer.Next.{Next}
use Rattle.stream_answer.specs.StreamAnswers.{stream_entries, synchronous_answer, pages_given}
use Rattle.read_stream.specs.FailedReads.{MayBeUnread}
use Rattle.read_stream.specs.ActorProgress.{ActorAdvanced}

-- a stream, between two calls
pub record StreamView (P : Type 0) : Type 0 where
  pub relation : ℕ
  -- the blocks that its source gave when it was opened, each with the caller's data
  pub blocks : List (ℕ × P)
  -- the name of the reference to its desk, and the desk's settings
  pub desk : ℕ
  pub settings : Settings
  -- how many pages were given
  pub given : ℕ
  -- how it has ended, if it has
  pub ending : Option Ending
  -- the actor when the stream was opened, and when its last call returned
  pub actor_was : ActorView
  pub actor_is : ActorView

-- what is answered, in the words of synchronous reads
abbrev pub answer_of : {P : Type 0} → StreamView P → Next P → Said P
answer_of s answer = synchronous_answer s.relation answer

-- a stream that has given nothing yet
abbrev pub new_stream : {P : Type 0} → ℕ → Settings → ℕ → List (ℕ × P) → ActorView → StreamView P
new_stream desk settings relation blocks actor = record {
  relation = relation;
  blocks = blocks;
  desk = desk;
  settings = settings;
  given = 0;
  ending = None;
  actor_was = actor;
  actor_is = actor;
}

-- the ending that is answered, if it is one
abbrev pub answered_stop : {P : Type 0} → Said P → Option Ending
answered_stop (SaidPage given) = None
answered_stop (SaidStop end) = Some end

-- the stream after a call that left the actor so and gave this answer
abbrev pub stream_after : {P : Type 0} → StreamView P → ActorView → Said P → StreamView P
stream_after s actor answer = record s {
  given = s.given + pages_given answer;
  ending = answered_stop answer;
  actor_is = actor;
}

-- the same stream, some calls later
abbrev pub IsSameStream : {P : Type 0} → StreamView P → StreamView P → Type 0
IsSameStream s t = t ≡ record s { given = t.given; ending = t.ending; actor_is = t.actor_is }

-- the actor has made no mark since it was left so. It may have looked
abbrev pub IsActorAsLeft : ActorView → ActorView → Type 0
IsActorAsLeft left now = (now.table ≡ left.table) × AppendsMarks left.known now.known []

-- no read of the actor has failed meanwhile
pub record HasNoFailedRead (was now : ActorView) : Type 0 where
  pub failed_results : failed_result_count now.known.marks ≡ failed_result_count was.known.marks

-- what is answered is what may be answered behind the pages that were given: the page of the next
-- block, which is valid or marked as the settings allow, or an ending; Unread at a block where a
-- read of the stream has failed
pub record IsStreamAnswer {P : Type 0} (told : Option Told) (s : StreamView P) (now : ActorView)
    (answer : Said P) : Type 0 where
  pub next : IsNext (reading_of s.settings.rules told) (MayBeUnread s.actor_was now.known)
      (stream_entries s.relation s.blocks) s.given answer
  pub valid : IfGiven answer (λ given. IsValidUnlessDamaged given.mark given.page)
  pub marked : IfGiven answer (λ given. AllowsMark s.settings.rules.damaged given.mark)
  pub within : IfPage answer (λ _. s.given < length s.blocks)

-- it is what synchronous reads answer there
abbrev pub IsSynchronousAnswer : {P : Type 0} → Option Told → StreamView P → Said P → Type 0
IsSynchronousAnswer told s answer = IsNext (reading_of s.settings.rules told) (λ _. ⊥)
    (stream_entries s.relation s.blocks) s.given answer

-- a call with this actor, executor and method: the actor ends what it takes up, and the executor's
-- counts rise with its marks
module _ {W M E : Type 0} (execute : ExecuteGhosts E ReadIoView W)
    (method : MethodGhosts M ReadIoView W) where
  pub record CallAdvanced (actor actor' : ActorView) (runner runner' : E) (by by' : M) : Type 0
    where
      pub same : IsSameActor actor actor'
      pub told : (execute.told runner' ≡ execute.told runner)
          × (execute.relations runner' ≡ execute.relations runner)
      pub actor_advanced : ActorAdvanced actor.known actor'.known (execute.reads runner)
          (execute.reads runner') (execute.faults runner) (execute.faults runner')
      pub stands_on : method.stands_on by' ≡ method.stands_on by
