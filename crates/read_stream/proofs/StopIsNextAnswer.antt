-- A stream stops.
use Rattle.std.proofs.Common.{◌≡◌, ℕ, List, [], ◌∷◌, ◌++◌, map, drop, sym, ap, subst, arith, ◌∙◌}
use Rattle.std.proofs.Common.{inl, refl}
use Rattle.std.specs.Prelude.{Some, slice_get}
use Rattle.std.proofs.lemmas.List.{length-map}
use Rattle.page_check.specs.declared.world.World.{Ghosts as WorldGhosts}
use Rattle.page_check.specs.SynchronousAnswer.{reading_of, End}
use Rattle.page_check.specs.IsAnswer.{IsNext, Next as Said, Stop as SaidStop}
use Rattle.aio_word.specs.declared.Known.{Known}
use Rattle.aio_word.specs.Stands.{IsIn}
use Rattle.read_stream.specs.declared.parts.Part.{Part}
use Rattle.read_stream.specs.declared.parts.Part.TheVariants as part
use Rattle.read_stream.specs.declared.parts.Stop.{Stop}
use Rattle.read_stream.specs.declared.queue.QueuedBlock.{QueuedBlock}
use Rattle.read_stream.specs.declared.stream.ReadStream.{ReadStream}
use Rattle.stream_answer.specs.StreamAnswers.{stream_entry}
use Rattle.read_stream.specs.FailedReads.{MayBeUnread}
use Rattle.read_stream.specs.StreamIos.{IsTakenIn}
use Rattle.read_stream.specs.QueuedBlocks.{HasInFront, source_item}
use Rattle.read_stream.specs.AtHand.{IsNextOfOldest, stop_ending}
use Rattle.read_stream.specs.StreamState.{HasRecords, IsPosition, entries_at_open, list_at_open}
use Rattle.read_stream.proofs.PartIsNextAnswer.{stop_is_next}
use Rattle.read_stream.specs.StreamState.{returned_count}
use Rattle.read_stream.proofs.ListPositions.{none-at}
use Rattle.read_stream.proofs.QueueMovesKeepIssued.{first-of}
use Rattle.read_stream.proofs.NextAnswerCases.{next-end}

-- the first of a list is in it
pub first-in : {X : Type 0} (xs : List X) (x : X) → slice_get xs 0 ≡ Some x → IsIn x xs
first-in {X} xs x e = subst (λ (z : List X). IsIn x z) (sym (first-of xs x e)) (inl refl)

module _ {W S P : Type 0} (left : S → List (ℕ × P)) (world : WorldGhosts W) where
  -- the stream's place in its list
  abbrev pub HasPosition : ReadStream W S P → Type 0
  HasPosition s = IsPosition world.told s.scope (list_at_open left world s) (left s.source)
      s.desk.now.blocks.over (returned_count left s) s.desk.now.blocks.queue.items

  -- this may be answered behind the pages that were given back
  abbrev pub MayAnswer : Known → ReadStream W S P → Said P → Type 0
  MayAnswer p s x = IsNext (reading_of s.scope.rules world.told) (MayBeUnread s.scope.was.value p)
      (entries_at_open left world s) (returned_count left s) x

  -- the blocks of the list that are left, of which this one stands in front
  pub left_of : (s : ReadStream W S P) (block : ℕ) (read : List ℕ)
      → (f : HasInFront s.desk.now.blocks.queue.items block read) → HasPosition s
      → drop (returned_count left s) (list_at_open left world s) ≡ (block, f.asked.per_buffer_data)
      ∷ (map source_item (drop 1 s.desk.now.blocks.queue.items) ++ left s.source)
  left_of s block read f at =
      let rest : List (ℕ × P) =
      map source_item (drop 1 s.desk.now.blocks.queue.items) ++ left s.source in
      sym at.blocks ∙ (ap (λ (z : List (QueuedBlock P)). map source_item z ++ left s.source)
      (first-of s.desk.now.blocks.queue.items f.asked f.first)
      ∙ ap (λ (z : ℕ). (z, f.asked.per_buffer_data) ∷ rest) f.is_block)

  -- the record of the oldest read was taken in
  pub oldest_taken : (p : Known) (s : ReadStream W S P) (block : ℕ) (has : Part)
      → HasRecords world s.scope p s.desk.now.reads
      → (o : IsNextOfOldest world.told s.desk.now.reads.ended.items s.desk.now.blocks.queue.items
      block has) → IsTakenIn s.scope world p o.oldest.io
  oldest_taken p s block has records o = records.issued.records.ended_records o.oldest
      (first-in s.desk.now.reads.ended.items o.oldest o.first)

  -- the oldest read has what stops the stream at the block
  pub stop_answered : (p : Known) (s : ReadStream W S P) (block : ℕ) (why : Stop)
      → IsNextOfOldest world.told s.desk.now.reads.ended.items s.desk.now.blocks.queue.items block
      (part.Stop why) → HasRecords world s.scope p s.desk.now.reads → HasPosition s
      → MayAnswer p s (SaidStop (stop_ending why block))
  stop_answered p s block why o records at =
      stop_is_next s.scope world (list_at_open left world s) (returned_count left s) block
      o.in_front.asked.per_buffer_data
      (map source_item (drop 1 s.desk.now.blocks.queue.items) ++ left s.source)
      (left_of s block (block ∷ []) o.in_front at) at.readable p o.oldest.io
      (oldest_taken p s block (part.Stop why) records o) o.covers why o.part

  -- no block is left
  pub end_answered : (p : Known) (s : ReadStream W S P) → s.desk.now.blocks.queue.items ≡ []
      → left s.source ≡ [] → HasPosition s → MayAnswer p s (SaidStop End)
  end_answered p s none empty at =
      let all = none-at (list_at_open left world s) (returned_count left s) (sym at.blocks
      ∙ (ap (λ (z : List (QueuedBlock P)). map source_item z ++ left s.source) none ∙ empty)) in
      let n = length-map (list_at_open left world s) (stream_entry s.scope.relation) in
      let few = at.given_within in
      next-end s.scope.rules (MayBeUnread s.scope.was.value p) (entries_at_open left world s)
      (returned_count left s) world.told at.readable (omega arith)
