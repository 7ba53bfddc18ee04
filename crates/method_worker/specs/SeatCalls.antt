-- What the calls of a queue do to a seat's lists, and what they tell.
use Rattle.std.specs.Prelude.{ℕ, List, [], ◌∷◌, ◌++◌, ◌≡◌, ◌≢◌, ◌+◌, ◌*◌, ◌<◌, length}
use Rattle.crossbeam_queue.specs.Fifo.{Held}
use Rattle.aio_word.specs.declared.WaitRef.{WaitRef}
use Rattle.method_worker.specs.QueueRule.{queue_log, LogAllows}
use Rattle.method_worker.specs.ClosingWord.{word_notes, ClosingWordHasCloser}
use Rattle.method_worker.specs.QueueViews.{SeatView, IsOnlySeat}
use Rattle.method_worker.specs.declared.queue.Pop.{Pop}
use Rattle.method_worker.specs.declared.queue.Pop.TheVariants as pop

-- the queue's rule allows these entries beside this seat's lists
abbrev pub RuleAllows : ℕ → SeatView → List WaitRef → Type 0
RuleAllows handles s items = LogAllows handles (queue_log s.parts s.pushes s.pops) items

-- at a moment of the call 64 entries stood in the queue
pub record WasFull (handles : ℕ) (s : SeatView) : Type 0 where
  pub moment : Held 64 (RuleAllows handles s)
  pub if_only_seat : IsOnlySeat s → length s.pushes ≡ length s.pops + 64

-- at a moment of the call no entry stood in the queue
pub record WasEmpty (handles : ℕ) (s : SeatView) : Type 0 where
  pub moment : Held 0 (RuleAllows handles s)
  pub if_only_seat : IsOnlySeat s → length s.pops ≡ length s.pushes

-- the seat pushed these references, and did nothing else
pub record SeatPushes (refs : List WaitRef) (s s' : SeatView) : Type 0 where
  pub pushes : s'.pushes ≡ s.pushes ++ refs
  pub pops : s'.pops ≡ s.pops
  pub loads : s'.loads ≡ s.loads
  pub closes : s'.closes ≡ s.closes

-- the seat popped these references and read these closing words, and did nothing else
pub record SeatPops (refs : List WaitRef) (words : List ℕ) (s s' : SeatView) : Type 0 where
  pub pushes : s'.pushes ≡ s.pushes
  pub pops : s'.pops ≡ s.pops ++ refs
  pub loads : s'.loads ≡ s.loads ++ words
  pub closes : s'.closes ≡ s.closes

-- the seat closed the queue under this number of reopenings
pub record SeatCloses (number : ℕ) (s s' : SeatView) : Type 0 where
  pub pushes : s'.pushes ≡ s.pushes
  pub pops : s'.pops ≡ s.pops
  pub loads : s'.loads ≡ s.loads
  pub closes : s'.closes ≡ s.closes ++ number ∷ []

-- the seat's last load read the closing word of a queue that is closed under this number of
-- reopenings, some seat has closed it so, and at a moment of the call no entry stood there
pub record FoundClosed (handles number word : ℕ) (s : SeatView) : Type 0 where
  pub word_is : word ≡ number * 2 + 1
  pub has_closer : ClosingWordHasCloser (word_notes s.closes s.loads) word
  pub was_empty : WasEmpty handles s

-- what a pop tells that reads this closing word
abbrev pub PopAnswers : ℕ → ℕ → ℕ → SeatView → SeatView → Pop → Type 0
PopAnswers handles number word s s' (pop.Entry t) = SeatPops (t ∷ []) (word ∷ []) s s'
    × (t.handle < handles)
    × ((items : List WaitRef) × RuleAllows handles s' items)
PopAnswers handles number word s s' pop.Empty = SeatPops [] (word ∷ []) s s'
    × (word ≢ number * 2 + 1)
    × WasEmpty handles s'
PopAnswers handles number word s s' pop.Closed = SeatPops [] (word ∷ []) s s'
    × FoundClosed handles number word s'
