-- What a completed record tells the places of its pages.
use Rattle.std.specs.Prelude.{ℕ, ◌+◌, List, map, nat_lt, Some, None, not, ◌&&◌}
use Rattle.std.specs.Prelude.{if◌then◌else◌}
use Rattle.std.specs.List.{range_with_len}
use Rattle.aio_word.specs.declared.WaitRef.{WaitRef}
use Rattle.read_callbacks.specs.Chain.{good_count, is_marked}
use Rattle.read_callbacks.specs.Finishes.{Finish}
use Rattle.aio_callback.specs.ReadIoView.{ReadIoView, record_page, record_mark}

abbrev pub record_reference : ReadIoView → WaitRef
record_reference r = record { handle = r.label.handle; generation = r.label.generation }

-- the block at this place of the record
abbrev pub one_finish : ReadIoView → ℕ → Finish
one_finish r i = record {
  relation = r.relation;
  block = r.first + i;
  checksums = r.checksums;
  reference = record_reference r;
  page = if nat_lt i (good_count r.ids r.result) && not (is_marked (record_mark r i)) then Some
      (record_page r i)
      else None;
}

-- all its blocks in rising order
unfoldable pub all_finishes : ReadIoView → List Finish
all_finishes r = map (one_finish r) (range_with_len 0 r.count)
