-- Which bytes of a page the items have. Space is given out in pieces of 8 bytes (`MAXALIGN`).
use Rattle.std.specs.Prelude.{ℕ, zero, suc, ◌+◌, ◌-◌, ◌/◌, ◌%◌, Bool, true, false, ◌&&◌, ◌||◌, not}
use Rattle.std.specs.Prelude.{◌==◌, nat_lt, nat_le, List, [], ◌∷◌, ◌++◌, Option, Some, None, find}
use Rattle.std.specs.Prelude.{◌≡◌, ◌<◌, length, slice_index, if◌then◌else◌}
use Rattle.std.specs.Option.{option_or}
use Rattle.page_check.specs.declared.fields.LinePointer.{LinePointer}
use Rattle.page_check.specs.declared.fields.PageHeader.{PageHeader}
use Rattle.page_check.specs.Fields.{header_of}
use Rattle.page_check.specs.LinePointers.{line_pointer_of}
use Rattle.heap_tuple.specs.Tuples.{is_normal}
use Rattle.page_faults.specs.declared.places.Place.{Place}
use Rattle.page_faults.specs.declared.places.Place.TheVariants.{Own, Taken, Outside}

-- a normal item that begins in the free space or between pieces, ends behind where the special
-- space begins, or has no room for the header of a tuple (`MAXALIGN(SizeofHeapTupleHeader)`)
unfoldable pub is_outside : PageHeader → LinePointer → Bool
is_outside header pointer =
    nat_lt pointer.offset header.upper || not (pointer.offset % 8 == 0)
    || nat_lt header.special (pointer.offset + pointer.length) || nat_lt pointer.length 24

-- the first piece of an item, and the one behind its last
abbrev pub first_piece : LinePointer → ℕ
first_piece pointer = pointer.offset / 8

abbrev pub end_piece : LinePointer → ℕ
end_piece pointer = (pointer.offset + pointer.length + 7) / 8

-- the item at an index covers the piece
unfoldable pub has_piece : List ℕ → ℕ → ℕ → Bool
has_piece page piece index =
    nat_le (first_piece (line_pointer_of page index)) piece
    && nat_lt piece (end_piece (line_pointer_of page index))

-- the first of these items that has the piece
unfoldable pub owner_of : List ℕ → List ℕ → ℕ → Option ℕ
owner_of page items piece = find (has_piece page piece) items

-- of so many pieces, from one on, the first that an item has: which item
abbrev pub first_owner : List ℕ → List ℕ → ℕ → ℕ → Option ℕ
first_owner page items piece zero = None
first_owner page items piece (suc more) =
    option_or (owner_of page items piece) (first_owner page items (piece + 1) more)

-- an item's number, which is one higher than its index
abbrev pub number_of : Option ℕ → Option ℕ
number_of None = None
number_of (Some index) = Some (index + 1)

abbrev pub place_by : Option ℕ → Place
place_by None = Own
place_by (Some number) = Taken number

-- the place of a normal item beside items that have theirs: it is outside, another item has a piece
-- of it, or it has its own
unfoldable pub place_of : List ℕ → List ℕ → ℕ → Place
place_of page items index =
    let pointer = line_pointer_of page index in
    if is_outside (header_of page) pointer then Outside
    else place_by (number_of (first_owner page items (first_piece pointer)
    (end_piece pointer - first_piece pointer)))

abbrev pub is_own : Place → Bool
is_own Own = true
is_own (Taken number) = false
is_own Outside = false

-- these items, and the one at an index where it is normal and has a place of its own
unfoldable pub with_item : List ℕ → List ℕ → ℕ → List ℕ
with_item page items index =
    items ++ (if is_normal (line_pointer_of page index).kind && is_own (place_of page items index)
    then index ∷ [] else [])

-- the items below an index that have places of their own: each beside those before it
abbrev pub placed_items : List ℕ → ℕ → List ℕ
placed_items page zero = []
placed_items page (suc index) = with_item page (placed_items page index) index

-- an item's number, and 0 for none
abbrev pub owner_number : Option ℕ → ℕ
owner_number None = 0
owner_number (Some index) = index + 1

-- for each piece of a page, the number of the first of these items that has it
pub record AreOwners (page items owners : List ℕ) : Type 0 where
  pub size : length owners ≡ 1024
  pub number : (piece : ℕ) → piece < 1024
      → slice_index owners piece ≡ owner_number (owner_of page items piece)
