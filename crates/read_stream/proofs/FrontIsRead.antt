-- The block at the front is read: by the oldest read, or alone.
use Rattle.std.proofs.Common.{◌≡◌, ◌≢◌, ℕ, ◌+◌, ◌-◌, ◌<◌, List, [], ◌∷◌, ◌++◌, length, drop}
use Rattle.std.proofs.Common.{refl, sym, ap, arith, ◌∙◌, subst, inr, ⊎_elim}
use Rattle.std.proofs.Common.{length-append}
use Rattle.std.specs.Prelude.{Option, Some, None, slice_get}
use Rattle.std.specs.List.{flat_map}
use Rattle.page_check.specs.declared.rules.DamagedPages.{DamagedPages}
use Rattle.page_check.specs.declared.world.World.{Ghosts as WorldGhosts}
use Rattle.aio_word.specs.declared.Class.TheVariants.{Unended}
use Rattle.aio_word.specs.declared.Known.{Known}
use Rattle.aio_word.specs.declared.WaitRef.{WaitRef}
use Rattle.aio_word.specs.Stands.{IsIn}
use Rattle.aio_callback.specs.ReadIoView.{ReadFits, ReadIoView}
use Rattle.aio_callback.specs.StreamOutcomes.{stream_ids}
use Rattle.circular_buffer.specs.Buffer.{Buffer, buffer}
use Rattle.read_plan.specs.Plans.{PlanView}
use Rattle.read_plan.specs.Runs.{one_block, run_blocks}
use Rattle.read_plan.specs.declared.runs.Run.{Run}
use Rattle.read_stream.specs.declared.queue.QueuedBlock.{QueuedBlock}
use Rattle.read_stream.specs.declared.queue.Want.TheVariants as want
use Rattle.read_stream.specs.declared.reads.EndedRead.{EndedRead}
use Rattle.read_stream.specs.declared.reads.Reads.{Reads}
use Rattle.read_stream.specs.declared.scope.Scope.{Scope}
use Rattle.read_stream.specs.declared.stream.ReadStream.{ReadStream}
use Rattle.read_stream.specs.AtHand.{last_page}
use Rattle.read_stream.specs.QueuedBlocks.{HasInFront, IsValidWant, block_read, front_read}
use Rattle.read_stream.specs.QueuedBlocks.{pending_blocks, read_blocks}
use Rattle.read_stream.specs.StreamIos.{HasEndedRead, Issued, ReadsForRuns, SameReads, left_run}
use Rattle.read_stream.specs.StreamIos.{ios_started, record_count}
use Rattle.read_stream.specs.StreamState.{IsFrontStarted, IsPosition, IsReadInFront, Underway}
use Rattle.read_stream.specs.Changes.{with_halves}
use Rattle.read_stream.specs.StreamState.{returned_count}
use Rattle.read_stream.proofs.FrontOfQueue.{front_is_read, front_items}
use Rattle.read_stream.proofs.FrontOfQueue.{front_long, front_read_blocks, front_read_long}
use Rattle.read_stream.proofs.FrontOfQueue.{reads_then}
use Rattle.read_stream.proofs.OldestRead.{few_started, few_with_oldest}
use Rattle.read_stream.proofs.OldestRead.{oldest_is_first, reads_count, reads_popped}
use Rattle.read_stream.proofs.QueuedBlocks.{few_read, few_runs}
use Rattle.read_stream.proofs.QueueMovesKeepIssued.{first-of}
use Rattle.read_stream.proofs.StopIsNextAnswer.{first-in}
use Rattle.read_stream.proofs.StreamInvariantLaws.{plan_agrees_then}
use Rattle.read_stream.proofs.UnderwayLaws.{few_reads, queue_within_list, underway_later}
use Rattle.read_stream.proofs.ReadsMatchRuns.{same_reads_refl}

-- where the oldest of the reads has one page left, this is its last
last_of : (ended : List EndedRead) (e : EndedRead) → slice_get ended 0 ≡ Some e
    → last_page ended ≡ 1 - ((left_run e).count - 1)
last_of ended e at = ap (λ (z : List EndedRead). last_page z) (first-of ended e at)

-- the oldest read is the one that was put in front
oldest_left : {W : Type 0} (c : Scope W) (p : Known) (r : Reads W) (given : ℕ) (run : Run)
    (others : List Run) → ReadsForRuns c p r given (run ∷ others) → (e : EndedRead)
    → slice_get r.ended.items 0 ≡ Some e → left_run e ≡ run
oldest_left c p r given run others a e at =
    let (rest, is, some) = oldest_is_first c p r given (run ∷ others) a e at in
    let heads : Some run ≡ Some (left_run e) = ap (λ (z : List Run). slice_get z 0) is in
    let same : run ≡ left_run e = cc in sym same

some-ended : (ended : List EndedRead) → (ended ≡ [] → ⊥)
    → (oldest : EndedRead) × (slice_get ended 0 ≡ Some oldest)
some-ended [] some = absurd (some refl)
some-ended (e ∷ ended) some = (e, refl)

none-of : {X : Type 0} (xs : List X) → length xs ≡ 0 → xs ≡ []
none-of [] e = refl
none-of (x ∷ xs) e = absurd (omega arith)

-- the block at the front is had otherwise, and the others as before
front-valid : {P : Type 0} (queue : List (QueuedBlock P)) (Q : QueuedBlock P → Type 0)
    → ((a : QueuedBlock P) → IsIn a queue → Q a)
    → ((a : QueuedBlock P) → Q (record a { want = want.Read }))
    → (a : QueuedBlock P) → IsIn a (front_read queue) → Q a
front-valid [] Q all new a i = absurd i
front-valid (x ∷ queue) Q all new a i = ⊎_elim (λ same. subst Q same (new x))
    (λ behind. all a (inr behind)) i

module _ {W S P : Type 0} (left : S → List (ℕ × P)) (world : WorldGhosts W) (p : Known)
    (s : ReadStream W S P) where
  -- what the oldest read has left, whose record was taken in
  pub oldest_facts : (block : ℕ) → IsReadInFront left world block p s → (e : EndedRead)
      → slice_get s.desk.now.reads.ended.items 0 ≡ Some e
      → (e.given < e.io.count) × ReadFits world.told world.relations e.io
      × (e.io.label.ended ≢ Unended) × (damaged : DamagedPages)
      × (e.io.ids ≡ stream_ids damaged)
  oldest_facts block f e at =
      let u = f.underway in
      let g = u.running in
      let (others, is, some) = oldest_is_first s.scope p s.desk.now.reads _ g.reads.runs
      g.reads.reads_for e at in
      let taken = u.invariant.records.issued.records.ended_records e
      (first-in s.desk.now.reads.ended.items e at) in
      (omega arith, taken.fits, taken.has_ended, s.scope.rules.damaged, taken.is_stream_record.ids)

  -- where the block at the front is read and started, not all records are free
  pub some_read : (block : ℕ) → Underway left world p s
      → HasInFront s.desk.now.blocks.queue.items block (block ∷ []) → IsFrontStarted s
      → length s.desk.now.reads.free.items ≡ record_count s.desk.now.reads → ⊥
  some_read block u f started all =
      let g = u.running in
      let pend : Option Run = s.desk.now.blocks.plan.pending in
      let reads : List ℕ = flat_map run_blocks g.reads.runs in
      let count = reads_count s.scope p s.desk.now.reads _ g.reads.runs g.reads.reads_for in
      let total = u.invariant.records.record_total in
      let ios = u.invariant.set_up.scope.1 in
      let idle = started block f (omega arith) in
      let long : length (read_blocks s.desk.now.blocks.queue.items)
      ≡ length (reads ++ pending_blocks pend) =
      ap (λ (z : List ℕ). length z) g.reads.in_order in
      let parts = length-append reads (pending_blocks pend) in
      let no_pending : length (pending_blocks pend) ≡ 0 =
      ap (λ (z : Option Run). length (pending_blocks z)) idle in
      let no_runs : length reads ≡ 0 =
      ap (λ (z : List Run). length (flat_map run_blocks z)) (none-of g.reads.runs (omega arith)) in
      let front : length (read_blocks s.desk.now.blocks.queue.items)
      ≡ length (block ∷ read_blocks (drop 1 s.desk.now.blocks.queue.items)) =
      ap (λ (z : List ℕ). length z)
      (reads_then s.desk.now.blocks.queue.items block (block ∷ []) f) in
      absurd (omega arith)

  -- the block at the front is read, and the oldest read was taken in
  pub oldest_in_front : (block : ℕ) → Underway left world p s
      → HasInFront s.desk.now.blocks.queue.items block (block ∷ []) → HasEndedRead s.desk.now.reads
      → IsReadInFront left world block p s
  oldest_in_front block u f ended =
      let v = u.invariant.records in record {
        underway = underway_later left world p p s s.desk.now.reads None 0
            (last_page s.desk.now.reads.ended.items) s.desk.now.blocks.plan.distance v.issued
            v.batch_within (same_reads_refl s.scope p s.desk.now.reads) (omega arith) u;
        in_front = f;
        has_ended = ended;
      }

  -- a read of it was taken in, where all was that could be
  pub read_taken_up : (q : Known) (r : Reads W) (block : ℕ) → Underway left world p s
      → HasInFront s.desk.now.blocks.queue.items block (block ∷ []) → IsFrontStarted s
      → SameReads s.scope p q s.desk.now.reads r → r.batch ≡ []
      → (r.ended.items ≡ [] → r.in_flight.items ≡ []) → HasEndedRead r
  read_taken_up q r block u f started same none taken =
      some-ended r.ended.items (λ no_ended. (let a : length r.ended.items ≡ 0 =
      ap (λ (z : List EndedRead). length z) no_ended in
      let b : length r.in_flight.items ≡ 0 =
      ap (λ (z : List WaitRef). length z) (taken no_ended) in
      let d : length r.batch ≡ 0 = ap (λ (z : List _). length z) none in
      let free : length r.free.items ≡ length s.desk.now.reads.free.items =
      ap (λ (z : Buffer ReadIoView). length z.items) same.free in
      let records = same.records in
      some_read block u f started (omega arith)))

  -- one more I/O may be made for the block at the front, which is not read
  pub may_read_alone : (block : ℕ) → Underway left world p s
      → HasInFront s.desk.now.blocks.queue.items block []
      → ios_started s.desk.now.reads < s.scope.most.value
  may_read_alone block u f =
      let g = u.running in
      let queue : List (QueuedBlock P) = s.desk.now.blocks.queue.items in
      let reads : List ℕ = flat_map run_blocks g.reads.runs in
      let pend : List ℕ = pending_blocks s.desk.now.blocks.plan.pending in
      let few = few_started s.scope p s.desk.now.reads _ g.reads.runs g.reads.reads_for in
      let long : length (read_blocks (drop 1 queue)) ≡ length (reads ++ pend) =
      ap (λ (z : List ℕ). length z) (sym (reads_then queue block [] f) ∙ g.reads.in_order) in
      let parts = length-append reads pend in
      let some = few_runs g.reads.runs g.reads.reads_for.not_empty in
      let behind = few_read (drop 1 queue) in
      let whole = front_long queue block [] f in
      let all = queue_within_list left world None 0 p s g in
      let most = u.invariant.set_up.list_within_most in
      omega arith

  -- one more I/O may be made for the rest of the oldest read, which has given a page
  pub may_read_rest : (block : ℕ) → IsReadInFront left world block p s → (e : EndedRead)
      → slice_get s.desk.now.reads.ended.items 0 ≡ Some e → 0 < e.given
      → ios_started s.desk.now.reads < s.scope.most.value
  may_read_rest block f e at some =
      let u = f.underway in
      let g = u.running in
      let few = few_with_oldest s.scope p s.desk.now.reads _ g.reads.runs g.reads.reads_for e
      at some in
      let queue = few_reads left world None _ p s g in
      let all = queue_within_list left world None _ p s g in
      let most = u.invariant.set_up.list_within_most in
      omega arith

  -- the rest of the oldest read was read by its record
  pub rest_read : (q : Known) (r : Reads W) (block distance : ℕ)
      → IsReadInFront left world block p s → (e : EndedRead)
      → slice_get s.desk.now.reads.ended.items 0 ≡ Some e → 0 < e.given
      → Issued s.scope world q r → length r.batch < 32
      → record_count r ≡ record_count s.desk.now.reads → r.free ≡ s.desk.now.reads.free
      → ((given : ℕ) (runs : List Run) → ReadsForRuns s.scope p (record s.desk.now.reads {
        ended = buffer (drop 1 s.desk.now.reads.ended.items) s.desk.now.reads.ended.capacity;
      }) given runs → ReadsForRuns s.scope q r given (left_run e ∷ runs))
      → HasEndedRead r
      → IsReadInFront left world block q (with_halves s (record s.desk.now.blocks {
        plan = record s.desk.now.blocks.plan { distance = distance };
      }) r)
  rest_read q r block distance f e at some issued few records same reads (e', at') =
      let u = f.underway in
      let g = u.running in
      let a = g.reads.reads_for in
      let pl : PlanView = s.desk.now.blocks.plan in
      let (others, is, _) = oldest_is_first s.scope p s.desk.now.reads _ g.reads.runs a e at in
      let now = reads _ others
      (reads_popped s.scope p s.desk.now.reads _ g.reads.runs a e at others is some) in
      let left_is = oldest_left s.scope q r _ (left_run e) others now e' at' in
      let last : last_page r.ended.items ≡ last_page s.desk.now.reads.ended.items =
      last_of r.ended.items e' at' ∙ (ap (λ (z : Run). 1 - (z.count - 1)) left_is
      ∙ sym (last_of s.desk.now.reads.ended.items e at)) in
      let free : length r.free.items ≡ length s.desk.now.reads.free.items =
      ap (λ (z : Buffer ReadIoView). length z.items) same in
      let in_use = g.plan.in_use in
      let spare = g.plan.spare_record in
      record {
        underway = record {
          invariant = record {
            set_up = u.invariant.set_up;
            records = record {
              issued = issued;
              batch_within = few;
              record_total = records ∙ u.invariant.records.record_total;
            };
          };
          running = record {
            position = g.position;
            reads = record {
              runs = left_run e ∷ others;
              reads_for = now;
              in_order = g.reads.in_order ∙ ap (λ (z : List Run). flat_map run_blocks z
                  ++ pending_blocks pl.pending) is;
            };
            wants = g.wants;
            plan = plan_agrees_then pl s.desk.now.settings _ _ _ _ g.plan distance pl.pending
                pl.ios_in_progress _ _ (omega arith) (omega arith);
          };
        };
        in_front = f.in_front;
        has_ended = (e', at');
      }

  -- the block at the front was read alone, by a free record
  pub alone_read : (q : Known) (r : Reads W) (block distance : ℕ) → Underway left world p s
      → HasInFront s.desk.now.blocks.queue.items block []
      → Issued s.scope world q r → length r.batch < 32
      → record_count r ≡ record_count s.desk.now.reads
      → length s.desk.now.reads.free.items ≡ length r.free.items + 1
      → ((given : ℕ) (runs : List Run) → ReadsForRuns s.scope p s.desk.now.reads given runs
      → ReadsForRuns s.scope q r given (one_block block ∷ runs))
      → HasEndedRead r
      → IsReadInFront left world block q (with_halves s (record (block_read s.desk.now.blocks) {
        plan = record s.desk.now.blocks.plan {
          ios_in_progress = s.desk.now.blocks.plan.ios_in_progress + 1;
          distance = distance;
        };
      }) r)
  alone_read q r block distance u f issued few records free reads (e, at) =
      let g = u.running in
      let queue : List (QueuedBlock P) = s.desk.now.blocks.queue.items in
      let pl : PlanView = s.desk.now.blocks.plan in
      let long = front_read_long queue block [] f in
      let count : returned_count left (with_halves s (block_read s.desk.now.blocks) r)
      ≡ returned_count left s = omega arith in
      let now = reads _ g.reads.runs g.reads.reads_for in
      let left_is = oldest_left s.scope q r _ (one_block block) g.reads.runs now e at in
      let last : last_page r.ended.items ≡ 1 =
      last_of r.ended.items e at ∙ ap (λ (z : Run). 1 - (z.count - 1)) left_is in
      let in_use = g.plan.in_use in
      let ahead = g.plan.ahead in
      let within = g.plan.queue_within_limit in
      record {
        underway = record {
          invariant = record {
            set_up = u.invariant.set_up;
            records = record {
              issued = issued;
              batch_within = few;
              record_total = records ∙ u.invariant.records.record_total;
            };
          };
          running = record {
            position = subst (λ (n : ℕ). IsPosition world.told s.scope (left s.source_was.value)
                (left s.source) s.desk.now.blocks.over n (front_read queue)) (sym count) (record {
                  given_within = g.position.given_within;
                  readable = g.position.readable;
                  blocks = ap (λ (z : List (ℕ × P)). z ++ left s.source)
                      (front_items queue block [] f) ∙ g.position.blocks;
                  none_left_if_over = g.position.none_left_if_over;
                });
            reads = record {
              runs = one_block block ∷ g.reads.runs;
              reads_for = subst (λ (n : ℕ). ReadsForRuns s.scope q r n
                  (one_block block ∷ g.reads.runs)) (sym count) now;
              in_order = front_read_blocks queue block [] f ∙ ap (λ (z : List ℕ). block ∷ z)
                  (sym (reads_then queue block [] f) ∙ g.reads.in_order);
            };
            wants = front-valid queue (λ a. IsValidWant world.handles a.want) g.wants (λ a. tt);
            plan = record {
              ahead = omega arith;
              queue_within_limit = omega arith;
              in_use = omega arith;
              spare_record = omega arith;
              combine = g.plan.combine;
              max_ios = g.plan.max_ios;
              limit = g.plan.limit;
            };
          };
        };
        in_front = front_is_read queue block [] f;
        has_ended = (e, at);
      }
