-- The page of the block at the front is found, or what stops the stream there.
use Rattle.std.proofs.Common.{◌≡◌, ℕ, ◌≤◌, List, [], length, subst, arith}
use Rattle.std.specs.Prelude.{None}
use Rattle.page_check.specs.declared.world.World.{Ghosts as WorldGhosts}
use Rattle.aio_word.specs.declared.Known.{Known}
use Rattle.read_callbacks.specs.GoodPages.{IsGood}
use Rattle.buf_pool.specs.LookupAnswers.{pinned_page}
use Rattle.buf_pool.specs.declared.pin.Pin.{Pin}
use Rattle.read_stream.specs.declared.at_hand.AtHand.TheVariants as at_hand
use Rattle.read_stream.specs.declared.parts.Part.{Part}
use Rattle.read_stream.specs.declared.parts.Part.TheVariants as part
use Rattle.read_stream.specs.declared.parts.Stop.{Stop}
use Rattle.read_stream.specs.declared.stream.ReadStream.{ReadStream}
use Rattle.read_stream.specs.QueuedBlocks.{HasInFront}
use Rattle.read_stream.specs.Parts.{CoversBlock, IsPartOfOldest, IsValidPart}
use Rattle.read_stream.specs.AtHand.{IsNextOfOldest}
use Rattle.read_stream.specs.StreamIos.{left_run, ios_started}
use Rattle.read_stream.specs.StreamState.{IsBetweenCalls, IsReadInFront, IsRunning, Underway}
use Rattle.read_stream.specs.Changes.{with_at_hand}
use Rattle.read_stream.proofs.FrontOfQueue.{front_is_next}
use Rattle.read_stream.proofs.OldestRead.{few_started, oldest_is_first}
use Rattle.read_stream.proofs.StopIsNextAnswer.{end_answered, stop_answered}
use Rattle.read_stream.proofs.UnderwayLaws.{few_reads, queue_within_list}

module _ {W S P : Type 0} (left : S → List (ℕ × P)) (world : WorldGhosts W) (p : Known)
    (s : ReadStream W S P) where
  -- no more I/Os were started than the list has blocks
  pub ios_within_list : (spare : ℕ) → IsRunning left world None spare p s
      → ios_started s.desk.now.reads ≤ length (left s.source_was.value)
  ios_within_list spare g =
      let few = few_started s.scope p s.desk.now.reads _ g.reads.runs g.reads.reads_for in
      let runs = few_reads left world None spare p s g in
      let queue = queue_within_list left world None spare p s g in omega arith

  -- the block at the front is the next one of the oldest read
  pub next_of_oldest : (block : ℕ) (has : Part) → IsReadInFront left world block p s
      → IsPartOfOldest world.told s.desk.now.reads has
      → IsNextOfOldest world.told s.desk.now.reads.ended.items s.desk.now.blocks.queue.items block
      has
  next_of_oldest block has f is =
      let g = f.underway.running in
      let (e, at) = f.has_ended in
      let (others, runs_are, some) = oldest_is_first s.scope p s.desk.now.reads _ g.reads.runs
      g.reads.reads_for e at in
      let here = front_is_next left world _ p s g block f.in_front (left_run e) others runs_are some
      in
      let (covers, part_is) = is e at in
      record {
        in_front = f.in_front;
        oldest = e;
        first = at;
        is_block = here;
        covers = subst (λ (z : ℕ). CoversBlock e.io z) here covers;
        part = subst (λ (z : ℕ). IsValidPart world.told e.io z has) here part_is;
      }

  -- it is in the pool
  pub found_pinned : (pin : Pin W) (block : ℕ) → Underway left world p s
      → HasInFront s.desk.now.blocks.queue.items block []
      → IsGood world.told s.scope.rules.checksums s.scope.relation block (pinned_page pin)
      → IsBetweenCalls left world p (with_at_hand s (at_hand.Pinned pin))
  found_pinned pin block u f good =
      let g = u.running in record {
        invariant = record { set_up = u.invariant.set_up; records = u.invariant.records };
        few_ios = ios_within_list 0 g;
        running = λ _. record {
          position = g.position;
          reads = g.reads;
          wants = g.wants;
          plan = g.plan;
        };
        right = (block, f, good);
        stop_answer = tt;
      }

  -- the oldest read has it
  pub found_lent : (block : ℕ) → IsReadInFront left world block p s
      → IsPartOfOldest world.told s.desk.now.reads part.Page
      → IsBetweenCalls left world p (with_at_hand s at_hand.Lent)
  found_lent block f is =
      let u = f.underway in
      let g = u.running in record {
        invariant = record { set_up = u.invariant.set_up; records = u.invariant.records };
        few_ios = ios_within_list _ g;
        running = λ _. record {
          position = g.position;
          reads = g.reads;
          wants = g.wants;
          plan = g.plan;
        };
        right = (block, next_of_oldest block part.Page f is);
        stop_answer = tt;
      }

  -- the oldest read stops the stream
  pub found_stop : (block : ℕ) (why : Stop) → IsReadInFront left world block p s
      → IsPartOfOldest world.told s.desk.now.reads (part.Stop why)
      → IsBetweenCalls left world p (with_at_hand s (at_hand.Stopped block why))
  found_stop block why f is =
      let u = f.underway in
      let o = next_of_oldest block (part.Stop why) f is in record {
        invariant = record { set_up = u.invariant.set_up; records = u.invariant.records };
        few_ios = ios_within_list _ u.running;
        running = λ going. absurd (cc);
        right = o;
        stop_answer = stop_answered left world p s block why o u.invariant.records
            u.running.position;
      }

  -- no block is left
  pub found_end : s.desk.now.blocks.queue.items ≡ [] → left s.source ≡ [] → Underway left world p s
      → IsBetweenCalls left world p (with_at_hand s at_hand.Ended)
  found_end none empty u = record {
    invariant = record { set_up = u.invariant.set_up; records = u.invariant.records };
    few_ios = ios_within_list 0 u.running;
    running = λ going. absurd (cc);
    right = tt;
    stop_answer = end_answered left world p s none empty u.running.position;
  }
