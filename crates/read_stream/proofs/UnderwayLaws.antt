-- A stream in the middle of a call, and what its steps leave of it.
use Rattle.std.proofs.Common.{◌≡◌, ℕ, ◌+◌, ◌<◌, ◌≤◌, List, [], ◌∷◌, ◌++◌, length, map, drop}
use Rattle.std.proofs.Common.{sym, ap, arith, ◌∙◌, append_assoc, length-append, subst}
use Rattle.std.specs.Prelude.{Option, Some, None}
use Rattle.std.specs.List.{flat_map}
use Rattle.std.proofs.lemmas.List.{map-append, length-map, length-drop, flat_map_more}
use Rattle.std.proofs.lemmas.List.FromFn.{length-range_with_len}
use Rattle.page_check.specs.declared.world.World.{Ghosts as WorldGhosts}
use Rattle.aio_word.specs.declared.Known.{Known}
use Rattle.aio_callback.specs.ReadIoView.{ReadIoView}
use Rattle.circular_buffer.specs.Buffer.{Buffer}
use Rattle.read_plan.specs.Plans.{PlanView}
use Rattle.read_plan.specs.Runs.{run_blocks}
use Rattle.read_plan.specs.declared.runs.Run.{Run}
use Rattle.read_stream.specs.declared.blocks.Blocks.{Blocks}
use Rattle.read_stream.specs.declared.queue.QueuedBlock.{QueuedBlock}
use Rattle.read_stream.specs.declared.reads.Reads.{Reads}
use Rattle.read_stream.specs.declared.stream.ReadStream.{ReadStream}
use Rattle.read_stream.specs.QueuedBlocks.{BlockTaken, IsValidWant, pending_blocks, read_block}
use Rattle.read_stream.specs.QueuedBlocks.{read_blocks, source_item}
use Rattle.read_stream.specs.StreamIos.{Issued, ReadsForRuns, SameReads, record_count, ios_started}
use Rattle.read_stream.specs.StreamState.{IsPosition, IsRunning, UnderwayWith}
use Rattle.read_stream.specs.Changes.{with_halves}
use Rattle.read_stream.specs.StreamState.{returned_count}
use Rattle.read_stream.proofs.OldestRead.{few_started, reads_count}
use Rattle.read_stream.proofs.PushedList.{each-pushed}
use Rattle.read_stream.proofs.QueuedBlocks.{few_read, few_runs, read_blocks_pushed}
use Rattle.read_stream.proofs.StreamInvariantLaws.{plan_agrees_then}

module _ {W S P : Type 0} (left : S → List (ℕ × P)) (world : WorldGhosts W) where
  -- the list is what was given back, what is in the queue, and what the source has left
  pub list_in_parts : (starting : Option Run) (spare : ℕ) (p : Known) (s : ReadStream W S P)
      → IsRunning left world starting spare p s
      → returned_count left s + (length s.desk.now.blocks.queue.items + length (left s.source))
      ≡ length (left s.source_was.value)
  list_in_parts starting spare p s g =
      let queue : List (QueuedBlock P) = s.desk.now.blocks.queue.items in
      let all : length (map source_item queue ++ left s.source)
      ≡ length (drop (returned_count left s) (left s.source_was.value)) =
      ap (λ (z : List (ℕ × P)). length z) g.position.blocks in
      let parts = length-append (map source_item queue) (left s.source) in
      let n = length-map queue source_item in
      let rest = length-drop (returned_count left s) (left s.source_was.value) in
      let few = g.position.given_within in omega arith

  pub queue_within_list : (starting : Option Run) (spare : ℕ) (p : Known) (s : ReadStream W S P)
      → IsRunning left world starting spare p s
      → returned_count left s + length s.desk.now.blocks.queue.items
      ≤ length (left s.source_was.value)
  queue_within_list starting spare p s g =
      let parts = list_in_parts starting spare p s g in omega arith

  -- the queue has a block for each read that was started, and for each block that is to be started
  -- or is pending
  pub few_reads : (starting : Option Run) (spare : ℕ) (p : Known) (s : ReadStream W S P)
      (g : IsRunning left world starting spare p s)
      → length g.reads.runs + length (pending_blocks starting)
      + length (pending_blocks s.desk.now.blocks.plan.pending)
      ≤ length s.desk.now.blocks.queue.items
  few_reads starting spare p s g =
      let queue : List (QueuedBlock P) = s.desk.now.blocks.queue.items in
      let out : List ℕ = pending_blocks starting in
      let pend : List ℕ = pending_blocks s.desk.now.blocks.plan.pending in
      let all : length (read_blocks queue)
      ≡ length (flat_map run_blocks g.reads.runs ++ (out ++ pend)) =
      ap (λ (z : List ℕ). length z) g.reads.in_order in
      let a = length-append (flat_map run_blocks g.reads.runs) (out ++ pend) in
      let b = length-append out pend in
      let few = few_runs g.reads.runs g.reads.reads_for.not_empty in
      let most = few_read queue in omega arith

  -- the I/Os and the plan's distance are others
  pub underway_later : (p q : Known) (s : ReadStream W S P) (r : Reads W)
      (starting : Option Run) (spare spare' distance : ℕ) → Issued s.scope world q r
      → length r.batch < 32 → SameReads s.scope p q s.desk.now.reads r
      → length r.free.items + spare ≤ length r.free.items + spare'
      → UnderwayWith left world starting spare p s
      → UnderwayWith left world starting spare' q (with_halves s (record s.desk.now.blocks {
        plan = record s.desk.now.blocks.plan { distance = distance };
      }) r)
  underway_later p q s r starting spare spare' distance issued few same more u =
      let g = u.running in
      let v = u.invariant.records in
      let pl : PlanView = s.desk.now.blocks.plan in
      let free : length r.free.items ≡ length s.desk.now.reads.free.items =
      ap (λ (z : Buffer ReadIoView). length z.items) same.free in
      let in_use = g.plan.in_use in
      let spare_record = g.plan.spare_record in
      record {
        invariant = record {
          set_up = u.invariant.set_up;
          records = record {
            issued = issued;
            batch_within = few;
            record_total = same.records ∙ v.record_total;
          };
        };
        running = record {
          position = g.position;
          reads = record {
            runs = g.reads.runs;
            reads_for = same.runs _ g.reads.runs g.reads.reads_for;
            in_order = g.reads.in_order;
          };
          wants = g.wants;
          plan = plan_agrees_then pl s.desk.now.settings _ _ _ _ g.plan distance pl.pending
              pl.ios_in_progress _ _ (omega arith) (omega arith);
        };
      }

  -- a block was taken from the source, and no page was given back
  pub taken_returned : (s : ReadStream W S P) (source : S) (block : ℕ) (info : P) (b : Blocks P)
      (run : Option Run) → left s.source ≡ (block, info) ∷ left source
      → BlockTaken world.handles block info s.desk.now.blocks b run
      → returned_count left (with_halves (record s { source = source }) b s.desk.now.reads)
      ≡ returned_count left s
  taken_returned s source block info b run first t =
      let queue : List (QueuedBlock P) = s.desk.now.blocks.queue.items in
      let one : length (left s.source) ≡ length ((block, info) ∷ left source) =
      ap (λ (z : List (ℕ × P)). length z) first in
      let pushed : length b.queue.items ≡ length (queue ++ t.asked ∷ []) =
      ap (λ (z : Buffer (QueuedBlock P)). length z.items) t.queue in
      let more = length-append queue (t.asked ∷ []) in omega arith

  -- a block was taken from the source
  pub underway_taken : (p : Known) (s : ReadStream W S P) (source : S) (block : ℕ) (info : P)
      (b : Blocks P) (run : Option Run)
      → left s.source ≡ (block, info) ∷ left source
      → BlockTaken world.handles block info s.desk.now.blocks b run
      → s.desk.now.blocks.plan.blocks_ahead < s.desk.now.blocks.plan.limit
      → UnderwayWith left world None 0 p s
      → UnderwayWith left world run 0 p
      (with_halves (record s { source = source }) b s.desk.now.reads)
  underway_taken p s source block info b run first t room u =
      let g = u.running in
      let a : QueuedBlock P = t.asked in
      let queue : List (QueuedBlock P) = s.desk.now.blocks.queue.items in
      let runs : List ℕ = flat_map run_blocks g.reads.runs in
      let was : Option Run = s.desk.now.blocks.plan.pending in
      let long = length-append queue (a ∷ []) in
      let item : left s.source ≡ source_item a ∷ left source =
      first ∙ ap (λ (z : ℕ × P). z ∷ left source) (sym t.item) in
      let some : length (left s.source) ≡ length (source_item a ∷ left source) =
      ap (λ (z : List (ℕ × P)). length z) item in
      let items : b.queue.items ≡ queue ++ a ∷ [] =
      ap (λ (z : Buffer (QueuedBlock P)). z.items) t.queue in
      let ahead = g.plan.ahead in
      let limit = g.plan.limit in
      let count = taken_returned s source block info b run first t in
      let at-count = subst (λ (n : ℕ). IsPosition world.told s.scope (left s.source_was.value)
      (left source) b.over n b.queue.items) (sym count) in
      record {
        invariant = record {
          set_up = record {
            relation_in_range = u.invariant.set_up.relation_in_range;
            settings = u.invariant.set_up.settings;
            scope = u.invariant.set_up.scope;
            rules = u.invariant.set_up.rules;
            queue = rw t.queue u.invariant.set_up.queue;
            list_within_most = u.invariant.set_up.list_within_most;
          };
          records = u.invariant.records;
        };
        running = record {
          position = at-count (record {
            given_within = g.position.given_within;
            readable = g.position.readable;
            blocks = rw items (ap (λ (z : List (ℕ × P)). z ++ left source)
                (map-append source_item queue (a ∷ []))
                ∙ (append_assoc (map source_item queue) (source_item a ∷ []) (left source)
                ∙ (ap (λ (z : List (ℕ × P)). map source_item queue ++ z) (sym item)
                ∙ g.position.blocks)));
            none_left_if_over = rw t.over (λ o. absurd (let none : length (left s.source) ≡ 0 =
                ap (λ (z : List (ℕ × P)). length z) (g.position.none_left_if_over o) in
                omega arith));
          });
          reads = record {
            runs = g.reads.runs;
            reads_for = subst (λ (n : ℕ). ReadsForRuns s.scope p s.desk.now.reads n g.reads.runs)
                (sym count) g.reads.reads_for;
            in_order = rw items (read_blocks_pushed queue a
                ∙ (ap (λ (z : List ℕ). z ++ read_block a.block a.want) g.reads.in_order
                ∙ (append_assoc runs (pending_blocks was) (read_block a.block a.want)
                ∙ ap (λ (z : List ℕ). runs ++ z) t.reads)));
          };
          wants = rw items
              (each-pushed (λ x. IsValidWant world.handles x.want) queue a g.wants t.want);
          plan = rw (items, t.plan) (record {
            ahead = omega arith;
            queue_within_limit = omega arith;
            in_use = g.plan.in_use;
            spare_record = g.plan.spare_record;
            combine = g.plan.combine;
            max_ios = g.plan.max_ios;
            limit = g.plan.limit;
          });
        };
      }

  -- the run was started that was to be started
  pub underway_started : (p q : Known) (s : ReadStream W S P) (run : Run) (r : Reads W)
      → Issued s.scope world q r → length r.batch < 32
      → ((given : ℕ) (runs : List Run) → ReadsForRuns s.scope p s.desk.now.reads given runs
      → ReadsForRuns s.scope q r given (runs ++ run ∷ []))
      → length s.desk.now.reads.free.items ≡ length r.free.items + 1
      → record_count r ≡ record_count s.desk.now.reads
      → 1 < length s.desk.now.reads.free.items
      → UnderwayWith left world (Some run) 0 p s
      → UnderwayWith left world None 0 q (with_halves s (record s.desk.now.blocks {
        plan = record s.desk.now.blocks.plan {
          ios_in_progress = s.desk.now.blocks.plan.ios_in_progress + 1;
        };
      }) r)
  underway_started p q s run r issued few reads free records some u =
      let g = u.running in
      let pl : PlanView = s.desk.now.blocks.plan in
      let runs : List Run = g.reads.runs in
      let pend : List ℕ = pending_blocks pl.pending in
      let in_use = g.plan.in_use in
      record {
        invariant = record {
          set_up = u.invariant.set_up;
          records = record {
            issued = issued;
            batch_within = few;
            record_total = records ∙ u.invariant.records.record_total;
          };
        };
        running = record {
          position = g.position;
          reads = record {
            runs = runs ++ run ∷ [];
            reads_for = reads _ runs g.reads.reads_for;
            in_order = g.reads.in_order
                ∙ (sym (append_assoc (flat_map run_blocks runs) (run_blocks run) pend)
                ∙ ap (λ (z : List ℕ). z ++ pend) (flat_map_more run_blocks [] runs run));
          };
          wants = g.wants;
          plan = plan_agrees_then pl s.desk.now.settings _ _ _ _ g.plan pl.distance pl.pending
              (pl.ios_in_progress + 1) _ _ (omega arith) (omega arith);
        };
      }

  -- where a run is to be started, fewer I/Os were started than may be made
  pub may_start : (p : Known) (s : ReadStream W S P) (run : Run) → 1 ≤ run.count
      → UnderwayWith left world (Some run) 0 p s
      → ios_started s.desk.now.reads < s.scope.most.value
  may_start p s run some u =
      let g = u.running in
      let few = few_reads (Some run) 0 p s g in
      let within = queue_within_list (Some run) 0 p s g in
      let started = few_started s.scope p s.desk.now.reads _ g.reads.runs g.reads.reads_for in
      let long = length-range_with_len run.first run.count in
      let most = u.invariant.set_up.list_within_most in omega arith

  -- the queue is empty: each record that is no spare one is free
  pub none_in_progress : (p : Known) (s : ReadStream W S P) → s.desk.now.blocks.queue.items ≡ []
      → UnderwayWith left world None 0 p s → s.desk.now.blocks.plan.ios_in_progress ≡ 0
  none_in_progress p s none u =
      let g = u.running in
      let empty : length s.desk.now.blocks.queue.items ≡ 0 =
      ap (λ (z : List (QueuedBlock P)). length z) none in
      let few = few_reads None 0 p s g in
      let count = reads_count s.scope p s.desk.now.reads _ g.reads.runs g.reads.reads_for in
      let total = u.invariant.records.record_total in
      let in_use = g.plan.in_use in omega arith
