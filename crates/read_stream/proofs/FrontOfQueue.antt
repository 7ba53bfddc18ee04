-- The block at the front of a queue, and the reads that have it.
use Rattle.std.proofs.Common.{◌≡◌, ℕ, ◌+◌, ◌-◌, ◌≤◌, List, [], ◌∷◌, ◌++◌, length, map, drop}
use Rattle.std.proofs.Common.{refl, sym, ap, arith, ◌∙◌, append_assoc}
use Rattle.std.specs.Prelude.{Some, None, slice_get}
use Rattle.std.specs.List.{flat_map, range_with_len}
use Rattle.page_check.specs.declared.world.World.{Ghosts as WorldGhosts}
use Rattle.aio_word.specs.declared.Known.{Known}
use Rattle.read_plan.specs.Runs.{run_blocks}
use Rattle.read_plan.specs.declared.runs.Run.{Run}
use Rattle.read_stream.specs.declared.queue.QueuedBlock.{QueuedBlock}
use Rattle.read_stream.specs.declared.queue.Want.{Want}
use Rattle.read_stream.specs.declared.queue.Want.TheVariants as want
use Rattle.read_stream.specs.declared.stream.ReadStream.{ReadStream}
use Rattle.read_stream.specs.QueuedBlocks.{HasInFront, front_read, pending_blocks, read_block}
use Rattle.read_stream.specs.QueuedBlocks.{read_blocks, source_item}
use Rattle.read_stream.specs.StreamState.{IsRunning}
use Rattle.read_stream.proofs.QueuedBlocks.{range_first}
use Rattle.read_stream.proofs.QueueMovesKeepIssued.{first-of}

heads : (xs ys : List ℕ) (a b : ℕ) → a ∷ xs ≡ b ∷ ys → a ≡ b
heads xs ys a b e =
    let f : Some a ≡ Some b = ap (λ (z : List ℕ). slice_get z 0) e in cc

pub tails : (xs ys : List ℕ) (a b : ℕ) → a ∷ xs ≡ b ∷ ys → xs ≡ ys
tails xs ys a b e = ap (λ (z : List ℕ). drop 1 z) e

-- the blocks of a run that has one more, and those behind them
run_then : (run : Run) (more : List ℕ) → 1 ≤ run.count
    → run_blocks run ++ more ≡ run.first ∷ (range_with_len (run.first + 1) (run.count - 1) ++ more)
run_then run more some = ap (λ (z : List ℕ). z ++ more) (range_first run.first run.count some)

-- the first block, which is had so
pub in_front_as : {P : Type 0} (queue : List (QueuedBlock P)) (a : QueuedBlock P) (w : Want)
    → slice_get queue 0 ≡ Some a → a.want ≡ w
    → HasInFront queue a.block (read_block a.block w)
in_front_as queue a w first is = record {
  asked = a;
  first = first;
  is_block = refl;
  is_read = ap (λ (z : Want). read_block a.block z) is;
}

module _ {P : Type 0} (queue : List (QueuedBlock P)) (block : ℕ) (read : List ℕ)
    (f : HasInFront queue block read) where
  abbrev rest : List (QueuedBlock P)
  rest = drop 1 queue

  first_is : queue ≡ f.asked ∷ rest
  first_is = first-of queue f.asked f.first

  -- what is read of the queue is what is read of the block at the front, and of those behind it
  pub reads_then : read_blocks queue ≡ read ++ read_blocks rest
  reads_then = ap (λ (z : List (QueuedBlock P)). read_blocks z) first_is
      ∙ ap (λ (z : List ℕ). z ++ read_blocks rest) f.is_read

  pub front_long : length queue ≡ length rest + 1
  front_long =
      let n : length queue ≡ length (f.asked ∷ rest) =
      ap (λ (z : List (QueuedBlock P)). length z) first_is in omega arith

  -- the block at the front is read now
  pub front_items : map source_item (front_read queue) ≡ map source_item queue
  front_items = ap (λ (z : List (QueuedBlock P)). map source_item (front_read z)) first_is
      ∙ ap (λ (z : List (QueuedBlock P)). map source_item z) (sym first_is)

  pub front_read_long : length (front_read queue) ≡ length queue
  front_read_long = ap (λ (z : List (QueuedBlock P)). length (front_read z)) first_is
      ∙ ap (λ (z : List (QueuedBlock P)). length z) (sym first_is)

  pub front_is_read : HasInFront (front_read queue) block (block ∷ [])
  front_is_read = record {
    asked = record f.asked { want = want.Read };
    first = ap (λ (z : List (QueuedBlock P)). slice_get (front_read z) 0) first_is;
    is_block = f.is_block;
    is_read = ap (λ (z : ℕ). z ∷ []) f.is_block;
  }

  pub front_read_blocks : read_blocks (front_read queue) ≡ block ∷ read_blocks rest
  front_read_blocks = ap (λ (z : List (QueuedBlock P)). read_blocks (front_read z)) first_is
      ∙ ap (λ (z : ℕ). z ∷ read_blocks rest) f.is_block

module _ {W S P : Type 0} (left : S → List (ℕ × P)) (world : WorldGhosts W) (spare : ℕ) (p : Known)
    (s : ReadStream W S P) (g : IsRunning left world None spare p s) (block : ℕ)
    (f : HasInFront s.desk.now.blocks.queue.items block (block ∷ [])) where
  abbrev queue : List (QueuedBlock P)
  queue = s.desk.now.blocks.queue.items

  abbrev pend : List ℕ
  pend = pending_blocks s.desk.now.blocks.plan.pending

  module _ (run : Run) (others : List Run) (runs_are : g.reads.runs ≡ run ∷ others)
      (some : 1 ≤ run.count) where
    abbrev behind : List ℕ
    behind = flat_map run_blocks others ++ pend

    both : block ∷ read_blocks (drop 1 queue)
        ≡ run.first ∷ (range_with_len (run.first + 1) (run.count - 1) ++ behind)
    both = sym (reads_then queue block (block ∷ []) f) ∙ (g.reads.in_order
        ∙ (ap (λ (z : List Run). flat_map run_blocks z ++ pend) runs_are
        ∙ (append_assoc (run_blocks run) (flat_map run_blocks others) pend
        ∙ run_then run behind some)))

    -- it is the first block that the oldest read has left
    pub front_is_next : run.first ≡ block
    front_is_next = sym (heads (read_blocks (drop 1 queue))
        (range_with_len (run.first + 1) (run.count - 1) ++ behind) block run.first both)

    -- and behind it stand those that are left then
    pub reads_behind : read_blocks (drop 1 queue)
        ≡ range_with_len (run.first + 1) (run.count - 1) ++ behind
    reads_behind = tails (read_blocks (drop 1 queue))
        (range_with_len (run.first + 1) (run.count - 1) ++ behind) block run.first both
