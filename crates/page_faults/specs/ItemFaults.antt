-- What is wrong with the items of a page.
use Rattle.std.specs.Prelude.{ℕ, ◌+◌, ◌-◌, Bool, ◌&&◌, not, ◌==◌, nat_le, List, [], ◌∷◌}
use Rattle.std.specs.List.{flat_map, range_with_len}
use Rattle.page_check.specs.declared.fields.Kind.{Kind}
use Rattle.page_check.specs.declared.fields.Kind.TheVariants.{Unused, Normal, Redirect, Dead}
use Rattle.page_check.specs.declared.fields.LinePointer.{LinePointer}
use Rattle.page_check.specs.LinePointers.{line_pointer_count, line_pointer_of}
use Rattle.heap_tuple.specs.declared.header.TupleHeader.{TupleHeader}
use Rattle.heap_tuple.specs.Tuples.{header_at, is_normal}
use Rattle.page_faults.specs.declared.options.CheckOptions.{CheckOptions}
use Rattle.page_faults.specs.declared.places.Place.{Place}
use Rattle.page_faults.specs.declared.places.Place.TheVariants.{Own, Taken, Outside}
use Rattle.page_faults.specs.declared.fault.Fault as fault
use Rattle.page_faults.specs.declared.fault.Fault.{Fault}
use Rattle.page_faults.specs.HeaderFaults.{fault_if}
use Rattle.page_faults.specs.Places.{place_of, placed_items}
use Rattle.page_faults.specs.TupleFaults.{tuple_faults}

-- an unused line pointer has neither offset nor length
abbrev pub is_wrong_unused : LinePointer → Bool
is_wrong_unused pointer = not (pointer.offset == 0 && pointer.length == 0)

-- a number from 1 on of a line pointer that is normal
unfoldable pub names_normal : List ℕ → ℕ → Bool
names_normal page number =
    nat_le 1 number && nat_le number (line_pointer_count page)
    && is_normal (line_pointer_of page (number - 1)).kind

-- a redirect has no length, and in place of an offset the number of a normal one
abbrev pub is_wrong_redirect : List ℕ → LinePointer → Bool
is_wrong_redirect page pointer = not (pointer.length == 0 && names_normal page pointer.offset)

-- of the item at an index, which is numbered one higher
abbrev pub item_fault : List ℕ → ℕ → Fault
item_fault page index = fault.TheVariants.Item (index + 1) (line_pointer_of page index)

-- the header of the tuple that begins where the line pointer says
abbrev pub header_of_item : List ℕ → ℕ → TupleHeader
header_of_item page index = header_at page (line_pointer_of page index).offset

-- of a normal item by its place; the tuple of one that has no place of its own is not looked at
abbrev pub place_faults : CheckOptions → List ℕ → ℕ → Place → List Fault
place_faults options page index Outside = item_fault page index ∷ []
place_faults options page index (Taken number) =
    fault.TheVariants.Overlap (index + 1) number ∷ []
place_faults options page index Own =
    tuple_faults options (index + 1) (line_pointer_of page index).length (header_of_item page index)

abbrev pub kind_faults : CheckOptions → List ℕ → ℕ → Kind → List Fault
kind_faults options page index Unused =
    fault_if (is_wrong_unused (line_pointer_of page index)) (item_fault page index)
kind_faults options page index Redirect =
    fault_if (is_wrong_redirect page (line_pointer_of page index)) (item_fault page index)
kind_faults options page index Dead = []
kind_faults options page index Normal =
    place_faults options page index (place_of page (placed_items page index) index)

-- of the item at an index: a dead one may have its bytes still
unfoldable pub item_faults : CheckOptions → List ℕ → ℕ → List Fault
item_faults options page index =
    kind_faults options page index (line_pointer_of page index).kind

-- of the items below an index, in order
unfoldable pub items_faults : CheckOptions → List ℕ → ℕ → List Fault
items_faults options page index = flat_map (item_faults options page) (range_with_len 0 index)
