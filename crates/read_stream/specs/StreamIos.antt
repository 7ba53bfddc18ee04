-- The I/Os of a stream: which token and which record is where.
use Rattle.std.specs.Prelude.{◌≡◌, ◌≢◌, ℕ, ◌+◌, ◌*◌, ◌^◌, ◌<◌, ◌≤◌, ◌⊎◌, ◌++◌, List, [], ◌∷◌, map}
use Rattle.std.specs.Prelude.{length, drop, take, slice_get, ◌-◌, Some, None}
use Rattle.circular_buffer.specs.Buffer.{buffer}
use Rattle.page_check.specs.declared.world.World.{Ghosts as WorldGhosts}
use Rattle.aio_word.specs.declared.Class.TheVariants.{Unended}
use Rattle.aio_word.specs.declared.Kind.TheVariants as kind
use Rattle.aio_word.specs.declared.Known.{Known}
use Rattle.aio_word.specs.declared.WaitRef.{WaitRef}
use Rattle.aio_word.specs.declared.Config.{Config}
use Rattle.aio_word.specs.Events.{mark_count, count_at_rank, actor_count, handle_count, owner}
use Rattle.aio_word.specs.Events.{lives_ended, make_mark}
use Rattle.aio_word.specs.Stands.{IsIn, seen_rank}
use Rattle.aio_word.specs.Tokens.{IsInFlight, MarksOnceAndSeen}
use Rattle.aio_batch.specs.StagedTokens.{AreStagedTokens}
use Rattle.aio_callback.specs.ReadIoView.{ReadIoView, ReadFits, record_aim}
use Rattle.aio_callback.specs.Finishes.{record_reference}
use Rattle.aio_callback.specs.StreamOutcomes.{stream_ids}
use Rattle.read_plan.specs.declared.runs.Run.{Run}
use Rattle.read_stream.specs.declared.reads.EndedRead.{EndedRead}
use Rattle.read_stream.specs.declared.reads.Reads.{Reads}
use Rattle.read_stream.specs.declared.scope.Scope.{Scope}
use Rattle.aio_word.specs.declared.Step.TheVariants.{HandOut}
use Rattle.aio_handle.specs.LifeWords.{idle_word, handed_out_word}
use Rattle.aio_handle.specs.CallEvents.{EventMade}
use Rattle.aio_handle.specs.FreeHandles.{IsInUse, IsRoom}
use Rattle.read_stream.specs.ActorProgress.{ActorAdvanced, MarkedSince, local_mark_count}

-- the references of staged I/Os
abbrev pub staged_references : List (WaitRef × ReadIoView) → List WaitRef
staged_references [] = []
staged_references (x ∷ xs) = x.0 ∷ staged_references xs

-- the run that the record is to read
abbrev pub run_of : ReadIoView → Run
run_of r = record { first = r.first; count = r.count }

-- the blocks of a read whose pages were not given
abbrev pub left_run : EndedRead → Run
left_run e = record { first = e.io.first + e.given; count = e.io.count - e.given }

-- how many of the reads have given no page
abbrev pub ungiven_count : List EndedRead → ℕ
ungiven_count [] = 0
ungiven_count (e ∷ es) = (1 - e.given) + ungiven_count es

-- one page more of the oldest read was given
abbrev pub first_given : List EndedRead → List EndedRead
first_given [] = []
first_given (e ∷ es) = record e { given = e.given + 1 } ∷ es

-- one of the actor's handles is in the middle of no life
pub record HasIdleHandle (k : Config) (p : Known) : Type 0 where
  pub handle : ℕ
  pub in_range : handle < handle_count k
  pub is_own : p.number ≡ owner k handle
  pub not_in_use : IsInUse k p handle → ⊥

-- the queues of records have room for so many
pub record HasRoom (total free in_flight ended : ℕ) : Type 0 where
  pub free_room : total ≤ free
  pub in_flight_room : total ≤ in_flight
  pub ended_room : total ≤ ended

module _ {W : Type 0} (c : Scope W) where
  -- what the actor knew when the stream was opened
  abbrev pub known_at_open : Known
  known_at_open = c.was.value.known

  -- the record is aimed at some blocks of the relation, with a stream's callbacks
  pub record IsStreamRecord (r : ReadIoView) : Type 0 where
    pub ids : r.ids ≡ stream_ids c.rules.damaged
    pub checksums : r.checksums ≡ c.rules.checksums
    pub relation : r.relation ≡ c.relation
    pub room : length r.pages ≡ c.combine

  -- the incarnation is one since the stream was opened: the list had no mark of it then
  abbrev pub IsNewIncarnation : WaitRef → Type 0
  IsNewIncarnation t = (i : ℕ) → i < 8 → count_at_rank t.handle
      (8 * t.generation + i) known_at_open.marks
      ≡ 0

  -- an I/O of the stream in flight
  pub record IsStreamIo (p : Known) (t : WaitRef) : Type 0 where
    pub in_flight : IsInFlight p t
    pub has_aim : (r : ReadIoView) × IsStreamRecord r × IsIn (t, record_aim r) p.aims
    pub is_new : IsNewIncarnation t

  -- each of these is in flight, and no two are of one incarnation
  abbrev pub AllStreamIos : Known → List WaitRef → Type 0
  AllStreamIos p [] = Unit {0}
  AllStreamIos p (t ∷ ts) = IsStreamIo p t × ((u : WaitRef) → IsIn u ts → u ≢ t) × AllStreamIos p ts

  -- the record was read by an I/O of this stream, which the actor took in: its Local mark stands
  -- in the actor's list, and in a table of one actor its Io mark too
  pub record IsTakenIn (world : WorldGhosts W) (p : Known) (r : ReadIoView) : Type 0
    where
      pub fits : ReadFits world.told world.relations r
      pub has_ended : r.label.ended ≢ Unended
      pub is_stream_record : IsStreamRecord r
      pub was_submitted : IsIn (record_reference r, record_aim r) p.aims
      pub local_mark : MarkedSince known_at_open p
          (make_mark (record_reference r) (kind.Local r.label.ended))
      pub io_mark_if_alone : actor_count c.was.value.known.config ≡ 1
          → MarkedSince known_at_open p (make_mark (record_reference r) (kind.Io r.label.ended))

  -- the I/O of this incarnation is to read so many blocks from the first on
  abbrev pub ReadsBlocks : ℕ → ℕ → Known → WaitRef → Type 0
  ReadsBlocks first count p t = (r : ReadIoView) × IsStreamRecord r × IsIn (t, record_aim r) p.aims
      × (r.first ≡ first) × (r.count ≡ count)

  -- these I/Os in flight are to read these runs, one each
  abbrev pub InFlightForRuns : Known → List WaitRef → List Run → Type 0
  InFlightForRuns p [] [] = Unit {0}
  InFlightForRuns p (t ∷ ts) (run ∷ runs) = ReadsBlocks run.first run.count p t
      × InFlightForRuns p ts runs
  InFlightForRuns p [] (run ∷ runs) = ⊥
  InFlightForRuns p (t ∷ ts) [] = ⊥

  -- the actor of a stream, which has taken in so many I/Os since the stream was opened
  pub record IsStreamActor (taken_in : ℕ) (p : Known) : Type 0 where
    pub number : p.number ≡ known_at_open.number
    pub config : p.config ≡ known_at_open.config
    pub nothing_handed_out : p.out ≡ None
    pub most_in_range : c.most.value < 2 ^ 58
    -- no more I/Os than each handle could have lives when the stream was opened
    pub room_was : IsRoom c.was.value.known.config known_at_open c.most.value
    pub taken_in_count : local_mark_count p.marks ≡ local_mark_count known_at_open.marks + taken_in
    pub lives_bound : (h : ℕ) → lives_ended h p.marks ≤ lives_ended h known_at_open.marks + taken_in
    pub marks_since_open : (more : List _) × (p.marks ≡ known_at_open.marks ++ more)

  -- records that nobody uses, and those that were taken in with their pages
  pub record AreStreamRecords (world : WorldGhosts W) (p : Known)
      (unused : List ReadIoView) (settled : List EndedRead) : Type 0 where
    pub free : (r : ReadIoView) → IsIn r unused → length r.pages ≡ c.combine
    pub ended_records : (e : EndedRead) → IsIn e settled → IsTakenIn world p e.io

  -- the tokens of a stream: those that are staged, and those in flight. Each incarnation that is not
  -- over is one of these, or one of the caller's
  pub record AreStreamTokens (p : Known) (caller_refs : List WaitRef)
      (batch : List (WaitRef × ReadIoView)) (in_flight : List WaitRef) : Type 0 where
    pub staged_tokens : AreStagedTokens p batch
    pub staged_ios : (x : WaitRef × ReadIoView) → IsIn x batch → IsStreamRecord x.1
        × IsNewIncarnation x.0
    pub stream_ios : AllStreamIos p in_flight
    pub unreclaimed_ios : (t : WaitRef)
        → (mark_count t kind.Defined p.marks ≤ mark_count t kind.Reclaimed p.marks)
        ⊎ IsIn t (caller_refs ++ staged_references batch ++ in_flight)

module _ {W : Type 0} where
  -- how many records lie here
  abbrev pub record_count : Reads W → ℕ
  record_count s =
      length s.free.items + length s.batch + length s.in_flight.items + length s.ended.items

  -- how many I/Os were started since the stream was opened
  abbrev pub ios_started : Reads W → ℕ
  ios_started s = s.taken_in + length s.batch + length s.in_flight.items

  -- the reads that were started, the oldest first, have these runs left. Each I/O that was taken in
  -- has given a page, which is one of so many, or its read has given none
  pub record ReadsForRuns (c : Scope W) (p : Known) (s : Reads W) (given : ℕ) (runs : List Run)
      : Type 0 where
    pub runs_in_flight : List Run
    pub stream_ios : InFlightForRuns c p s.in_flight.items runs_in_flight
    pub in_order : runs ≡ map left_run s.ended.items ++ runs_in_flight
        ++ map (λ x. run_of x.1) s.batch
    pub not_empty : (run : Run) → IsIn run runs → 1 ≤ run.count
    pub few_ios : s.taken_in ≤ given + ungiven_count s.ended.items

  -- the same reads, later
  pub record SameReads (c : Scope W) (p q : Known) (s s' : Reads W) : Type 0 where
    pub free : s'.free ≡ s.free
    pub records : record_count s' ≡ record_count s
    pub started : ios_started s' ≡ ios_started s
    pub runs : (given : ℕ) (runs : List Run) → ReadsForRuns c p s given runs
        → ReadsForRuns c q s' given runs

  -- a read was taken in
  abbrev pub HasEndedRead : Reads W → Type 0
  HasEndedRead s = (oldest : EndedRead) × (slice_get s.ended.items 0 ≡ Some oldest)

  -- one page more of the oldest read was given
  abbrev pub oldest_given : Reads W → Reads W
  oldest_given s = record s { ended = buffer (first_given s.ended.items) s.ended.capacity }

  -- the record of the oldest read is free
  abbrev pub oldest_freed : Reads W → Reads W
  oldest_freed s = record s {
    free = buffer (map (λ e. e.io) (take 1 s.ended.items) ++ s.free.items) s.free.capacity;
    ended = buffer (drop 1 s.ended.items) s.ended.capacity;
  }

  -- all records lie here, and nothing is under way
  pub record AllRecordsFree (room total : ℕ) (s : Reads W) : Type 0 where
    pub has_room : HasRoom total s.free.capacity s.in_flight.capacity s.ended.capacity
    pub free : (r : ReadIoView) → IsIn r s.free.items → length r.pages ≡ room
    pub free_count : length s.free.items ≡ total
    pub batch : s.batch ≡ []
    pub in_flight : s.in_flight.items ≡ []
    pub ended : s.ended.items ≡ []

  -- the state of the I/Os of a stream whose actor knows p, except those of these incarnations,
  -- whose tokens the caller holds
  pub record IssuedExcept (caller_refs : List WaitRef) (c : Scope W) (world : WorldGhosts W)
      (p : Known) (s : Reads W) : Type 0 where
    pub room : HasRoom c.total.value s.free.capacity s.in_flight.capacity s.ended.capacity
    pub count_within : record_count s ≤ c.total.value
    pub within_most : ios_started s + length caller_refs ≤ c.most.value
    pub actor : IsStreamActor c s.taken_in p
    pub records : AreStreamRecords c world p s.free.items s.ended.items
    pub tokens : AreStreamTokens c p caller_refs s.batch s.in_flight.items

  -- the caller holds this I/O in flight, which is none of those here
  pub record HeldByCaller (c : Scope W) (world : WorldGhosts W) (p : Known)
      (s : Reads W) (t : WaitRef) : Type 0 where
    pub issued : IssuedExcept (t ∷ []) c world p s
    pub stream_ios : IsStreamIo c p t
    pub apart : (u : WaitRef) → IsIn u s.in_flight.items → u ≢ t

  -- the actor advanced from p, and then, where it knew `before`, handed out the incarnation
  pub record HandleHandedOut (c : Scope W) (world : WorldGhosts W) (p q : Known)
      (reads reads' faults faults' : ℕ) (s : Reads W) (t : WaitRef) : Type 0 where
    pub before : Known
    pub actor_advanced : ActorAdvanced p before reads reads' faults faults'
    pub issued : IssuedExcept [] c world before s
    pub hand_out_event : EventMade HandOut t.handle (idle_word t.generation)
        (handed_out_word t.generation) [] before q
    pub token : q.out ≡ Some t
    pub is_new : IsNewIncarnation c t
    pub marks_once : MarksOnceAndSeen (seen_rank q) q.marks

  abbrev pub Issued : Scope W → WorldGhosts W → Known → Reads W → Type 0
  Issued c world p s = IssuedExcept [] c world p s
