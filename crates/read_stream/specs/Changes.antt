-- What a step of a stream changes, and what it leaves as it is.
use Rattle.std.specs.Prelude.{◌≡◌, ℕ, List}
use Rattle.read_stream.specs.declared.at_hand.AtHand.{AtHand}
use Rattle.read_stream.specs.declared.blocks.Blocks.{Blocks}
use Rattle.read_stream.specs.declared.reads.Reads.{Reads}
use Rattle.read_stream.specs.declared.stream.ReadStream.{ReadStream}
use Rattle.read_stream.specs.QueuedBlocks.{block_given}
use Rattle.read_stream.specs.StreamState.{returned_count}

-- the stream reads the same
pub record IsSameReading {W S P : Type 0} (old new : ReadStream W S P) : Type 0 where
  pub desk : new.desk.ghost_name ≡ old.desk.ghost_name
  pub scope : new.scope ≡ old.scope
  pub source_was : new.source_was ≡ old.source_was
  pub settings : new.desk.now.settings ≡ old.desk.now.settings

-- and no page was given back
pub record SameStream {W S P : Type 0} (left : S → List (ℕ × P)) (old new : ReadStream W S P)
    : Type 0 where
  pub reading : IsSameReading old new
  pub given : returned_count left new ≡ returned_count left old

module _ {W S P : Type 0} (s : ReadStream W S P) where
  -- the stream with other blocks and other reads
  abbrev pub with_halves : Blocks P → Reads W → ReadStream W S P
  with_halves b r = record s {
    desk = record s.desk { now = record s.desk.now { blocks = b; reads = r } };
  }

  -- this is at hand
  abbrev pub with_at_hand : AtHand W → ReadStream W S P
  with_at_hand h = record s { at_hand = h }

  -- the page of the block at the front is given back
  abbrev pub page_given : ReadStream W S P
  page_given = with_halves (block_given s.desk.now.blocks) s.desk.now.reads
