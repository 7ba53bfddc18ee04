-- The state of a stream, between its calls and in the middle of one.
use Rattle.std.specs.Prelude.{◌≡◌, ℕ, ◌+◌, ◌-◌, ◌<◌, ◌≤◌, ◌++◌, List, [], ◌∷◌, length, map, drop}
use Rattle.std.specs.Prelude.{true, Bool, Option, None, IfSome, slice_get}
use Rattle.std.specs.List.{flat_map}
use Rattle.page_check.specs.SynchronousAnswer.{IfKnown}
use Rattle.page_check.specs.declared.world.World.{Ghosts as WorldGhosts}
use Rattle.page_check.specs.Told.{Told}
use Rattle.page_check.specs.SynchronousAnswer.{Entry, read_count, reading_of}
use Rattle.page_check.specs.IsAnswer.{Next as Said, Stop as SaidStop, IsNext}
use Rattle.aio_word.specs.declared.Known.{Known}
use Rattle.aio_word.specs.Stands.{IsIn}
use Rattle.aio_handle.specs.ContractViews.{ActorView, IsSameActor}
use Rattle.read_plan.specs.Plans.{PlanView}
use Rattle.read_plan.specs.Runs.{run_blocks}
use Rattle.read_plan.specs.declared.runs.Run.{Run}
use Rattle.read_stream.specs.declared.desk.Settings.{Settings}
use Rattle.read_stream.specs.declared.queue.QueuedBlock.{QueuedBlock}
use Rattle.read_stream.specs.declared.reads.Reads.{Reads}
use Rattle.read_stream.specs.declared.scope.Scope.{Scope}
use Rattle.read_stream.specs.declared.stream.ReadStream.{ReadStream}
use Rattle.stream_answer.specs.StreamAnswers.{stream_entries}
use Rattle.read_stream.specs.FailedReads.{MayBeUnread}
use Rattle.read_stream.specs.StreamViews.{StreamView, IsActorAsLeft, stream_after}
use Rattle.read_stream.specs.StreamIos.{Issued, ReadsForRuns, HasEndedRead, record_count}
use Rattle.read_stream.specs.StreamIos.{ios_started}
use Rattle.read_stream.specs.Desks.{AreValidSettings}
use Rattle.read_stream.specs.QueuedBlocks.{HasInFront, IsValidWant, pending_blocks, read_blocks}
use Rattle.read_stream.specs.QueuedBlocks.{source_item}
use Rattle.read_stream.specs.AtHand.{IsRightAtHand, answer_with, ending_at_hand, last_page}
use Rattle.read_stream.specs.AtHand.{lent_count, spare_at_hand}

-- what does not change while a stream is open: its list has so many blocks, and its desk has these
-- settings, and room for so many blocks
pub record IsSetUp {W : Type 0} (relations : ℕ) (c : Scope W) (blocks : ℕ) (desk : Settings)
    (queue_room : ℕ) : Type 0 where
  pub relation_in_range : c.relation < relations
  pub settings : AreValidSettings desk
  pub scope : (c.combine ≡ desk.combine) × (c.total.value ≡ desk.ios + 1)
  pub rules : c.rules ≡ desk.rules
  pub queue : desk.limit ≤ queue_room
  pub list_within_most : blocks ≤ c.most.value

-- the I/Os of a stream, and all its records
pub record HasRecords {W : Type 0} (world : WorldGhosts W) (c : Scope W) (p : Known)
    (reads : Reads W) : Type 0 where
  pub issued : Issued c world p reads
  pub batch_within : length reads.batch < 32
  pub record_total : record_count reads ≡ c.total.value

-- so many blocks of the list were given back: what is left of it is what the stream has taken from
-- its source, then what the source has left
pub record IsPosition {W P : Type 0} (told : Option Told) (c : Scope W) (list left : List (ℕ × P))
    (over : Bool) (given : ℕ) (queue : List (QueuedBlock P)) : Type 0 where
  pub given_within : given ≤ length list
  pub readable : IfKnown (reading_of c.rules told)
      (λ f. given ≤ read_count f (stream_entries c.relation list))
  pub blocks : map source_item queue ++ left ≡ drop given list
  pub none_left_if_over : over ≡ true → left ≡ []

-- the blocks of the queue that are read are those that the reads have left, those of the run that
-- is to be started now, and those of the pending run
pub record AreReadBlocks {W P : Type 0} (c : Scope W) (p : Known) (reads : Reads W) (given : ℕ)
    (queue : List (QueuedBlock P)) (starting pending : Option Run) : Type 0 where
  pub runs : List Run
  pub reads_for : ReadsForRuns c p reads given runs
  pub in_order : read_blocks queue
      ≡ flat_map run_blocks runs ++ (pending_blocks starting ++ pending_blocks pending)

-- the plan counts the blocks of the queue, and the records that are not free. A block that is
-- looked for in the pool has a record to be read by
pub record PlanAgrees (plan : PlanView) (settings : Settings) (queued total free spare : ℕ) : Type 0
  where
    pub ahead : plan.blocks_ahead ≡ queued
    pub queue_within_limit : queued ≤ settings.limit
    pub in_use : plan.ios_in_progress + free ≡ total
    pub spare_record : 0 < free + spare
    pub combine : plan.combine ≡ settings.combine
    pub max_ios : plan.max_ios ≡ settings.ios
    pub limit : plan.limit ≡ settings.limit

-- the answer that is at hand
abbrev pub answer_at_hand : {W S P : Type 0} → ReadStream W S P → Said P
answer_at_hand s = answer_with s.scope.relation s.at_hand (slice_get s.desk.now.blocks.queue.items 0)
    (slice_get s.desk.now.reads.ended.items 0)

-- how many pages were given back: those of the blocks of the list that are neither in the queue nor
-- left with the source
abbrev pub returned_count : {W S P : Type 0} → (S → List (ℕ × P)) → ReadStream W S P → ℕ
returned_count left s = length (left s.source_was.value)
    - (length s.desk.now.blocks.queue.items + length (left s.source))

-- a stream as its callers see it
abbrev pub stream_view : {W S P : Type 0} → (S → List (ℕ × P)) → ReadStream W S P → StreamView P
stream_view left s = record {
  relation = s.scope.relation;
  blocks = left s.source_was.value;
  desk = s.desk.ghost_name;
  settings = s.desk.now.settings;
  given = returned_count left s + lent_count s.at_hand;
  ending = ending_at_hand s.at_hand;
  actor_was = s.scope.was.value;
  actor_is = s.actor_is.value;
}

module _ {W S P : Type 0} (left : S → List (ℕ × P)) (world : WorldGhosts W) where
  -- the blocks that the source gave when the stream was opened
  abbrev pub list_at_open : ReadStream W S P → List (ℕ × P)
  list_at_open s = left s.source_was.value

  abbrev pub entries_at_open : ReadStream W S P → List (Entry P)
  entries_at_open s = stream_entries s.scope.relation (list_at_open s)

  -- what holds of a stream at any time, whose actor knows p
  pub record StreamInvariant (p : Known) (s : ReadStream W S P) : Type 0 where
    pub set_up : IsSetUp world.relations s.scope (length (list_at_open s)) s.desk.now.settings
        s.desk.now.blocks.queue.capacity
    pub records : HasRecords world s.scope p s.desk.now.reads

  -- a stream that has not ended, and is to start this run now
  pub record IsRunning (starting : Option Run) (spare : ℕ) (p : Known) (s : ReadStream W S P)
      : Type 0 where
    pub position : IsPosition world.told s.scope (list_at_open s) (left s.source)
        s.desk.now.blocks.over (returned_count left s) s.desk.now.blocks.queue.items
    pub reads : AreReadBlocks s.scope p s.desk.now.reads (returned_count left s)
        s.desk.now.blocks.queue.items starting s.desk.now.blocks.plan.pending
    pub wants : (a : QueuedBlock P) → IsIn a s.desk.now.blocks.queue.items
        → IsValidWant world.handles a.want
    pub plan : PlanAgrees s.desk.now.blocks.plan s.desk.now.settings
        (length s.desk.now.blocks.queue.items) s.scope.total.value
        (length s.desk.now.reads.free.items) spare

  -- between two calls
  pub record IsBetweenCalls (p : Known) (s : ReadStream W S P) : Type 0 where
    pub invariant : StreamInvariant p s
    pub few_ios : ios_started s.desk.now.reads ≤ length (list_at_open s)
    pub running : ending_at_hand s.at_hand ≡ None
        → IsRunning None (spare_at_hand s.at_hand s.desk.now.reads.ended.items) p s
    pub right : IsRightAtHand world.told s.scope.rules.checksums s.scope.relation s.desk.now.reads.ended.items
        s.desk.now.blocks.queue.items s.at_hand
    pub stop_answer : IfSome (ending_at_hand s.at_hand) (λ e. IsNext (reading_of s.scope.rules
        world.told) (MayBeUnread s.scope.was.value p) (entries_at_open s) (returned_count left s)
        (SaidStop e))

  pub record IsOpen (s : ReadStream W S P) : Type 0 where
    pub same : IsSameActor s.scope.was.value s.actor_is.value
    pub backend : s.actor_is.value.known.number < s.actor_is.value.known.config.backends
    pub between : IsBetweenCalls s.actor_is.value.known s

  -- it is open, and the actor is as it was left: by the opening, or by the last call
  pub record IsOpenFor (s : ReadStream W S P) (actor : ActorView) : Type 0 where
    pub is_open : IsOpen s
    pub as_left : IsActorAsLeft s.actor_is.value actor

  -- the stream after a call that left the actor so and gave this answer
  pub record StreamAnswered (old new : ReadStream W S P) (actor : ActorView) (answer : Said P)
      : Type 0 where
    pub view : stream_view left new ≡ stream_after (stream_view left old) actor answer
    pub open_for : IsOpenFor new actor

  -- in the middle of a call: no page is lent
  pub record UnderwayWith (starting : Option Run) (spare : ℕ) (p : Known) (s : ReadStream W S P)
      : Type 0 where
    pub invariant : StreamInvariant p s
    pub running : IsRunning starting spare p s

  abbrev pub Underway : Known → ReadStream W S P → Type 0
  Underway p s = UnderwayWith None 0 p s

  -- the block is at the front of the queue, and a read of it was taken in
  pub record IsReadInFront (block : ℕ) (p : Known) (s : ReadStream W S P) : Type 0 where
    pub underway : UnderwayWith None (last_page s.desk.now.reads.ended.items) p s
    pub in_front : HasInFront s.desk.now.blocks.queue.items block (block ∷ [])
    pub has_ended : HasEndedRead s.desk.now.reads

-- where the block at the front is read, its read was started: if all records are free, no run is
-- pending
abbrev pub IsFrontStarted : {W S P : Type 0} → ReadStream W S P → Type 0
IsFrontStarted s = (block : ℕ)
    → HasInFront s.desk.now.blocks.queue.items block (block ∷ [])
    → s.desk.now.settings.ios < length s.desk.now.reads.free.items
    → s.desk.now.blocks.plan.pending ≡ None
