-- The page that was lent is given back.
use Rattle.std.proofs.Common.{◌≡◌, ◌≢◌, ℕ, ◌+◌, ◌-◌, ◌<◌, ◌≤◌, List, [], ◌∷◌, ◌++◌, length, map, drop}
use Rattle.std.proofs.Common.{refl, sym, ap, arith, ◌∙◌, append_assoc, subst, inr, ◌⊎◌, ⊎_elim}
use Rattle.std.specs.Prelude.{Some, None, slice_get}
use Rattle.std.specs.List.{flat_map, range_with_len}
use Rattle.page_check.specs.declared.world.World.{Ghosts as WorldGhosts}
use Rattle.page_check.specs.SynchronousAnswer.{End}
use Rattle.aio_word.specs.declared.Known.{Known}
use Rattle.aio_word.specs.Stands.{IsIn}
use Rattle.read_plan.specs.Runs.{run_blocks}
use Rattle.read_plan.specs.declared.runs.Run.{Run}
use Rattle.buf_pool.specs.declared.pin.Pin.{Pin}
use Rattle.read_stream.specs.declared.at_hand.AtHand.{AtHand}
use Rattle.read_stream.specs.declared.at_hand.AtHand.TheVariants as at_hand
use Rattle.read_stream.specs.declared.blocks.Blocks.{Blocks}
use Rattle.read_stream.specs.declared.queue.QueuedBlock.{QueuedBlock}
use Rattle.read_stream.specs.declared.reads.EndedRead.{EndedRead}
use Rattle.read_stream.specs.declared.reads.Reads.{Reads}
use Rattle.read_stream.specs.declared.scope.Scope.{Scope}
use Rattle.read_stream.specs.declared.stream.ReadStream.{ReadStream}
use Rattle.read_stream.specs.QueuedBlocks.{HasInFront, pending_blocks, read_blocks, source_item}
use Rattle.read_stream.specs.AtHand.{HasAnswer, IsRightAtHand, ending_at_hand, last_page}
use Rattle.read_stream.specs.AtHand.{spare_at_hand, stop_ending}
use Rattle.read_stream.specs.declared.parts.Stop.{Stop}
use Rattle.read_stream.specs.StreamIos.{ReadsForRuns, left_run, oldest_freed, oldest_given}
use Rattle.read_stream.specs.StreamState.{HasRecords, IsBetweenCalls, IsPosition, UnderwayWith}
use Rattle.read_stream.specs.Changes.{page_given, with_halves}
use Rattle.read_stream.specs.StreamState.{returned_count}
use Rattle.read_stream.proofs.FrontOfQueue.{front_long, reads_behind, reads_then}
use Rattle.read_stream.proofs.GivenPageIsNextAnswer.{page_answered}
use Rattle.read_stream.proofs.ListPositions.{below-at, rest-at}
use Rattle.read_stream.proofs.OldestRead.{issued_freed, issued_given, oldest_is_first}
use Rattle.read_stream.proofs.OldestRead.{reads_freed, reads_given}
use Rattle.read_stream.proofs.QueueMovesKeepIssued.{first-of}
use Rattle.read_stream.proofs.StopIsNextAnswer.{left_of}
use Rattle.read_stream.proofs.UnderwayLaws.{list_in_parts}

-- more pages were given
more_given : {W : Type 0} (c : Scope W) (p : Known) (s : Reads W) (given : ℕ) (runs : List Run)
    → ReadsForRuns c p s given runs → ReadsForRuns c p s (given + 1) runs
more_given c p s given runs a = record {
  runs_in_flight = a.runs_in_flight;
  stream_ios = a.stream_ios;
  in_order = a.in_order;
  not_empty = a.not_empty;
  few_ios = let few = a.few_ios in omega arith;
}

module _ {W S P : Type 0} (left : S → List (ℕ × P)) (world : WorldGhosts W) (p : Known)
    (s : ReadStream W S P) (b : IsBetweenCalls left world p s)
    (going : ending_at_hand s.at_hand ≡ None) (has : HasAnswer s.at_hand) (block : ℕ)
    (read : List ℕ) (f : HasInFront s.desk.now.blocks.queue.items block read) where
  abbrev queue : List (QueuedBlock P)
  queue = s.desk.now.blocks.queue.items

  -- one page more was given back
  one_returned : (k : AtHand W) (b' : Blocks P) (r : Reads W) → b'.queue.items ≡ queue
      → returned_count left (page_given (with_halves (record s { at_hand = k }) b' r))
      ≡ returned_count left s + 1
  one_returned k b' r same =
      let parts = list_in_parts left world None _ p s (b.running going) in
      let long = front_long queue block read f in
      let rest : length (drop 1 b'.queue.items) ≡ length (drop 1 queue) =
      ap (λ (z : List (QueuedBlock P)). length (drop 1 z)) same in omega arith

  -- the block leaves the queue, and these are the reads and the I/Os in progress then
  returned_with : (k : AtHand W) (r : Reads W) (ios : ℕ) (runs : List Run)
      → HasRecords world s.scope p r → ReadsForRuns s.scope p r (returned_count left s + 1) runs
      → read_blocks (drop 1 queue)
      ≡ flat_map run_blocks runs ++ pending_blocks s.desk.now.blocks.plan.pending
      → ios + length r.free.items ≡ s.scope.total.value → 0 < length r.free.items
      → UnderwayWith left world None 0 p (page_given (with_halves (record s { at_hand = k })
      (record s.desk.now.blocks {
        plan = record s.desk.now.blocks.plan { ios_in_progress = ios };
      }) r))
  returned_with k r ios runs records reads order in_use some =
      let g = b.running going in
      let here = left_of left world s block read f g.position in
      let more : List (ℕ × P) = map source_item (drop 1 queue) ++ left s.source in
      let below = below-at (left s.source_was.value) _ (block, f.asked.per_buffer_data) more here in
      let long = front_long queue block read f in
      let ahead = g.plan.ahead in
      let within = g.plan.queue_within_limit in
      let count = one_returned k s.desk.now.blocks r refl in
      record {
        invariant = record { set_up = b.invariant.set_up; records = records };
        running = record {
          position = subst (λ (n : ℕ). IsPosition world.told s.scope (left s.source_was.value)
              (left s.source) s.desk.now.blocks.over n (drop 1 queue)) (sym count) (record {
                given_within = omega arith;
                readable = (page_answered left world p s b.right going has b.invariant.records
                    g.position).1;
                blocks = sym (rest-at (left s.source_was.value) _
                    (block, f.asked.per_buffer_data) more here);
                none_left_if_over = g.position.none_left_if_over;
              });
          reads = record {
            runs = runs;
            reads_for = subst (λ (n : ℕ). ReadsForRuns s.scope p r n runs) (sym count) reads;
            in_order = order;
          };
          wants = λ a i. g.wants a (subst (λ (z : List (QueuedBlock P)). IsIn a z)
              (sym (first-of queue f.asked f.first)) (inr i));
          plan = record {
            ahead = omega arith;
            queue_within_limit = omega arith;
            in_use = in_use;
            spare_record = omega arith;
            combine = g.plan.combine;
            max_ios = g.plan.max_ios;
            limit = g.plan.limit;
          };
        };
      }

-- a stream that has not ended and has lent no page has nothing at hand
pub nothing_lent : {W : Type 0} (h k : AtHand W) → k ≡ h → ending_at_hand h ≡ None
    → (k ≡ at_hand.Nothing) ⊎ ((block : ℕ) × (why : Stop) × (k ≡ at_hand.Stopped block why))
    ⊎ (k ≡ at_hand.Ended) → h ≡ at_hand.Nothing
nothing_lent {W} h k same going is = ⊎_elim (λ nothing. sym same ∙ nothing)
    (λ other. ⊎_elim
    (λ stopped. absurd (let some : ending_at_hand h ≡ Some (stop_ending stopped.1 stopped.0) =
    ap (λ (z : AtHand W). ending_at_hand z) (sym same ∙ stopped.2) in cc))
    (λ over. absurd (let some : ending_at_hand h ≡ Some End =
    ap (λ (z : AtHand W). ending_at_hand z) (sym same ∙ over) in cc)) other) is

module _ {W S P : Type 0} (left : S → List (ℕ × P)) (world : WorldGhosts W) (p : Known)
    (s : ReadStream W S P) (b : IsBetweenCalls left world p s) where
  abbrev ended : List EndedRead
  ended = s.desk.now.reads.ended.items

  abbrev IsRight : AtHand W → Type 0
  IsRight h = IsRightAtHand world.told s.scope.rules.checksums s.scope.relation ended s.desk.now.blocks.queue.items h

  is-going : (h : AtHand W) → s.at_hand ≡ h → ending_at_hand h ≡ None
      → ending_at_hand s.at_hand ≡ None
  is-going h now none = ap (λ (z : AtHand W). ending_at_hand z) now ∙ none

  -- the oldest read has a page left
  pub lent_left : s.at_hand ≡ at_hand.Lent → (e : EndedRead) → slice_get ended 0 ≡ Some e
      → e.given < e.io.count
  lent_left now e at =
      let (block, o) = subst IsRight now b.right in
      let same : Some o.oldest ≡ Some e = sym o.first ∙ at in
      let is : o.oldest ≡ e = cc in
      let place = o.is_block in
      let (low, below) = o.covers in
      subst (λ (z : EndedRead). z.given < z.io.count) is (omega arith)

  -- a page of the pool
  pub pinned_returned : (pin : Pin W) (k : AtHand W) → s.at_hand ≡ at_hand.Pinned pin
      → UnderwayWith left world None 0 p (page_given (record s { at_hand = k }))
  pinned_returned pin k now =
      let going = is-going (at_hand.Pinned pin) now refl in
      let (block, f, good) = subst IsRight now b.right in
      let g = b.running going in
      let spare = g.plan.spare_record in
      let none : spare_at_hand s.at_hand ended ≡ 0 =
      ap (λ (z : AtHand W). spare_at_hand z ended) now in
      returned_with left world p s b going (rw now tt) block [] f k s.desk.now.reads
      s.desk.now.blocks.plan.ios_in_progress g.reads.runs b.invariant.records
      (more_given s.scope p s.desk.now.reads _ g.reads.runs g.reads.reads_for)
      (sym (reads_then s.desk.now.blocks.queue.items block [] f) ∙ g.reads.in_order) g.plan.in_use
      (omega arith)

  -- the last page of a read, whose record is free then
  pub last_returned : (k : AtHand W) → s.at_hand ≡ at_hand.Lent
      → ((e : EndedRead) → slice_get ended 0 ≡ Some e → e.given + 1 ≡ e.io.count)
      → UnderwayWith left world None 0 p (page_given (with_halves (record s { at_hand = k })
      (record s.desk.now.blocks {
        plan = record s.desk.now.blocks.plan {
          ios_in_progress = s.desk.now.blocks.plan.ios_in_progress - 1;
        };
      }) (oldest_freed s.desk.now.reads)))
  last_returned k now is_last =
      let going = is-going at_hand.Lent now refl in
      let (block, o) = subst IsRight now b.right in
      let reads : Reads W = s.desk.now.reads in
      let e : EndedRead = o.oldest in
      let g = b.running going in
      let a = g.reads.reads_for in
      let (others, runs_are, some) = oldest_is_first s.scope p reads _ g.reads.runs a e o.first
      in
      let last = is_last e o.first in
      let none : (left_run e).count - 1 ≡ 0 = omega arith in
      let freed = issued_freed s.scope world p reads e o.first b.invariant.records.issued in
      let (issued, records, started, free) = freed in
      let total = b.invariant.records.record_total in
      let in_use = g.plan.in_use in
      let long : length ended ≡ length (e ∷ drop 1 ended) =
      ap (λ (z : List EndedRead). length z) (first-of ended e o.first) in
      returned_with left world p s b going (rw now tt) block (block ∷ []) o.in_front k
      (oldest_freed reads) (s.desk.now.blocks.plan.ios_in_progress - 1) others
      (record {
        issued = issued;
        batch_within = b.invariant.records.batch_within;
        record_total = records ∙ total;
      })
      (reads_freed s.scope p reads _ g.reads.runs a e o.first others runs_are)
      (reads_behind left world _ p s g block o.in_front (left_run e) others runs_are some
      ∙ ap (λ (z : ℕ). range_with_len ((left_run e).first + 1) z ++ (flat_map run_blocks others
      ++ pending_blocks s.desk.now.blocks.plan.pending)) none)
      (omega arith) (omega arith)

  -- a page of a read that has more
  pub more_returned : (k : AtHand W) → s.at_hand ≡ at_hand.Lent
      → ((e : EndedRead) → slice_get ended 0 ≡ Some e → e.given + 1 ≢ e.io.count)
      → UnderwayWith left world None 0 p (page_given (with_halves (record s { at_hand = k })
      s.desk.now.blocks (oldest_given s.desk.now.reads)))
  more_returned k now not_last =
      let going = is-going at_hand.Lent now refl in
      let (block, o) = subst IsRight now b.right in
      let reads : Reads W = s.desk.now.reads in
      let e : EndedRead = o.oldest in
      let g = b.running going in
      let a = g.reads.reads_for in
      let (others, runs_are, some) = oldest_is_first s.scope p reads _ g.reads.runs a e o.first
      in
      let more = not_last e o.first in
      let two : 2 ≤ (left_run e).count = omega arith in
      let given = issued_given s.scope world p reads b.invariant.records.issued in
      let (issued, records, started) = given in
      let total = b.invariant.records.record_total in
      let spare = g.plan.spare_record in
      let last : spare_at_hand s.at_hand ended ≡ 1 - ((left_run e).count - 1) =
      ap (λ (z : AtHand W). spare_at_hand z ended) now
      ∙ ap (λ (z : List EndedRead). last_page z) (first-of ended e o.first) in
      let next : Run = record { first = (left_run e).first + 1; count = (left_run e).count - 1 } in
      returned_with left world p s b going (rw now tt) block (block ∷ []) o.in_front k
      (oldest_given reads) s.desk.now.blocks.plan.ios_in_progress (next ∷ others)
      (record {
        issued = issued;
        batch_within = b.invariant.records.batch_within;
        record_total = records ∙ total;
      })
      (reads_given s.scope p reads _ g.reads.runs a e o.first others runs_are two)
      (reads_behind left world _ p s g block o.in_front (left_run e) others runs_are some
      ∙ sym (append_assoc (run_blocks next) (flat_map run_blocks others)
      (pending_blocks s.desk.now.blocks.plan.pending)))
      g.plan.in_use (omega arith)

  -- no page was lent
  pub nothing_returned : (k : AtHand W) → s.at_hand ≡ at_hand.Nothing
      → UnderwayWith left world None 0 p (record s { at_hand = k })
  nothing_returned k now =
      let g = b.running (is-going at_hand.Nothing now refl) in
      let spare = g.plan.spare_record in
      let none : spare_at_hand s.at_hand ended ≡ 0 =
      ap (λ (z : AtHand W). spare_at_hand z ended) now in
      record {
        invariant = record { set_up = b.invariant.set_up; records = b.invariant.records };
        running = record {
          position = g.position;
          reads = g.reads;
          wants = g.wants;
          plan = record {
            ahead = g.plan.ahead;
            queue_within_limit = g.plan.queue_within_limit;
            in_use = g.plan.in_use;
            spare_record = omega arith;
            combine = g.plan.combine;
            max_ios = g.plan.max_ios;
            limit = g.plan.limit;
          };
        };
      }
