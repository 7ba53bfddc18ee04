-- What a stream has taken from its source and not given back, and what its plan says of it.
use Rattle.std.specs.Prelude.{◌≡◌, ℕ, ◌+◌, ◌-◌, ◌<◌, ◌++◌, List, [], ◌∷◌, drop, slice_get, ⊤, false}
use Rattle.std.specs.Prelude.{Option, Some, None, IfSome}
use Rattle.std.specs.List.{flat_map}
use Rattle.circular_buffer.specs.Buffer.{buffer}
use Rattle.read_plan.specs.Plans.{IsSoundPlan, MayLookAhead}
use Rattle.read_plan.specs.Runs.{IsRun, run_blocks}
use Rattle.read_plan.specs.declared.runs.Run.{Run}
use Rattle.read_stream.specs.declared.blocks.Blocks.{Blocks}
use Rattle.read_stream.specs.declared.queue.QueuedBlock.{QueuedBlock}
use Rattle.read_stream.specs.declared.queue.Want.{Want}
use Rattle.read_stream.specs.declared.queue.Want.TheVariants as want

-- the reference of a join is in range
abbrev pub IsValidWant : ℕ → Want → Type 0
IsValidWant handles want.Read = ⊤
IsValidWant handles want.Look = ⊤
IsValidWant handles (want.Join reference) = reference.handle < handles

-- the block where it is had by a read of the stream's own, and none otherwise
abbrev pub read_block : ℕ → Want → List ℕ
read_block block want.Read = block ∷ []
read_block block want.Look = []
read_block block (want.Join reference) = []

-- the blocks of a run, if there is one
abbrev pub pending_blocks : Option Run → List ℕ
pending_blocks None = []
pending_blocks (Some run) = run_blocks run

module _ {P : Type 0} where
  abbrev pub source_item : QueuedBlock P → ℕ × P
  source_item a = (a.block, a.per_buffer_data)

  -- the blocks that are had by reads of the stream's own
  abbrev pub read_blocks : List (QueuedBlock P) → List ℕ
  read_blocks queue = flat_map (λ a. read_block a.block a.want) queue

  -- this block stands in front, of which so much is read
  pub record HasInFront (queue : List (QueuedBlock P)) (block : ℕ) (read : List ℕ) : Type 0 where
    pub asked : QueuedBlock P
    pub first : slice_get queue 0 ≡ Some asked
    pub is_block : asked.block ≡ block
    pub is_read : read_block asked.block asked.want ≡ read

  -- the plan wants another block, and the source may have one
  pub record MayTake (b : Blocks P) : Type 0 where
    pub not_over : b.over ≡ false
    pub ahead : MayLookAhead b.plan
    pub sound : IsSoundPlan b.plan

  -- the block was put behind the others, and this run is to be started. What is read of the block
  -- is in that run, or in the one that is pending now
  pub record BlockTaken (handles block : ℕ) (per_buffer_data : P) (old new : Blocks P)
      (run : Option Run) : Type 0 where
    pub asked : QueuedBlock P
    pub item : source_item asked ≡ (block, per_buffer_data)
    pub want : IsValidWant handles asked.want
    pub queue : new.queue ≡ buffer (old.queue.items ++ asked ∷ []) old.queue.capacity
    pub plan : new.plan ≡ record old.plan {
      distance = new.plan.distance;
      pending = new.plan.pending;
      blocks_ahead = old.plan.blocks_ahead + 1;
    }
    pub over : new.over ≡ old.over
    pub is_run : IfSome run (IsRun old.plan.combine)
    pub reads : pending_blocks old.plan.pending ++ read_block asked.block asked.want
        ≡ pending_blocks run ++ pending_blocks new.plan.pending

  -- the block at the front is read
  abbrev pub front_read : List (QueuedBlock P) → List (QueuedBlock P)
  front_read [] = []
  front_read (a ∷ queue) = record a { want = want.Read } ∷ queue

  abbrev pub block_read : Blocks P → Blocks P
  block_read b = record b {
    queue = buffer (front_read b.queue.items) b.queue.capacity;
    plan = record b.plan { ios_in_progress = b.plan.ios_in_progress + 1 };
  }

  -- the page of the block at the front is given back
  abbrev pub block_given : Blocks P → Blocks P
  block_given b = record b {
    queue = buffer (drop 1 b.queue.items) b.queue.capacity;
    plan = record b.plan { blocks_ahead = b.plan.blocks_ahead - 1 };
  }
