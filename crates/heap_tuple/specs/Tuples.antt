-- The headers of a page's tuples (`HeapTupleHeaderData` of `htup_details.h`), and the steps of
-- update chains.
use Rattle.std.specs.Prelude.{◌≡◌, ◌≢◌, ℕ, ◌+◌, ◌*◌, ◌-◌, ◌%◌, ◌<◌, Bool, true, false, ◌&&◌, not}
use Rattle.std.specs.Prelude.{◌==◌, nat_le, List, Option, Some, None, if◌then◌else◌, slice_index}
use Rattle.page_check.specs.declared.fields.Kind.{Kind}
use Rattle.page_check.specs.declared.fields.Kind.TheVariants.{Unused, Normal, Redirect, Dead}
use Rattle.page_check.specs.declared.fields.LinePointer.{LinePointer}
use Rattle.page_check.specs.Fields.{u16_at, u32_at}
use Rattle.page_check.specs.LinePointers.{line_pointer_count, line_pointer_of}
use Rattle.heap_tuple.specs.declared.header.TupleHeader.{TupleHeader}

abbrev pub is_normal : Kind → Bool
is_normal Unused = false
is_normal Normal = true
is_normal Redirect = false
is_normal Dead = false

-- a normal item that has room for a header (`SizeofHeapTupleHeader`) and ends with the page or
-- before
abbrev pub is_inside : LinePointer → Bool
is_inside pointer =
    is_normal pointer.kind && nat_le 23 pointer.length
    && nat_le (pointer.offset + pointer.length) 8192

-- the fields from an offset on: `t_xmin`, `t_xmax`, `t_field3`, `t_ctid` (its block in two halves,
-- the high one first), `t_infomask2` with `HEAP_NATTS_MASK`, `t_infomask`, `t_hoff`
unfoldable pub header_at : List ℕ → ℕ → TupleHeader
header_at page offset = record {
  xmin = u32_at page offset;
  xmax = u32_at page (offset + 4);
  field3 = u32_at page (offset + 8);
  block = 65536 * u16_at page (offset + 12) + u16_at page (offset + 14);
  position = u16_at page (offset + 16);
  attrs = u16_at page (offset + 18) % 2048;
  mask = u16_at page (offset + 20);
  hoff = slice_index page (offset + 22);
}

abbrev pub tuple_at : List ℕ → LinePointer → Option TupleHeader
tuple_at page pointer = if is_inside pointer then Some (header_at page pointer.offset) else None

-- the header of the tuple at an index, where there is one inside the page
unfoldable pub tuple_of : List ℕ → ℕ → Option TupleHeader
tuple_of page index = tuple_at page (line_pointer_of page index)

-- Item i steps to item j, as `heap_prune_chain` follows an update chain: i's `t_ctid` names j,
-- another item of the same block, and what updated i is what made j.
pub record Steps (page : List ℕ) (block i j : ℕ) : Type 0 where
  pub below : j < line_pointer_count page
  pub other : i ≢ j
  pub old_tuple : TupleHeader
  pub old_tuple_is : tuple_of page i ≡ Some old_tuple
  pub new_tuple : TupleHeader
  pub new_tuple_is : tuple_of page j ≡ Some new_tuple
  pub ctid_names : (old_tuple.block ≡ block) × (old_tuple.position ≡ j + 1)
  pub xmin_is_xmax : new_tuple.xmin ≡ old_tuple.xmax

-- the tuple was made by this transaction
abbrev pub has_xmin : Option TupleHeader → ℕ → Bool
has_xmin None xid = false
has_xmin (Some new_tuple) xid = new_tuple.xmin == xid

-- the item at this index steps to the one that its header's `t_ctid` names
abbrev pub is_stepping : List ℕ → ℕ → ℕ → TupleHeader → Bool
is_stepping page block index old_tuple =
    old_tuple.block == block && nat_le 1 old_tuple.position
    && nat_le old_tuple.position (line_pointer_count page) && not (old_tuple.position == index + 1)
    && has_xmin (tuple_of page (old_tuple.position - 1)) old_tuple.xmax

abbrev pub step_by : List ℕ → ℕ → ℕ → Option TupleHeader → Option ℕ
step_by page block index None = None
step_by page block index (Some old_tuple) =
    if is_stepping page block index old_tuple then Some (old_tuple.position - 1) else None

-- the index of the item to which the one at an index steps
unfoldable pub step_of : List ℕ → ℕ → ℕ → Option ℕ
step_of page block index = step_by page block index (tuple_of page index)
