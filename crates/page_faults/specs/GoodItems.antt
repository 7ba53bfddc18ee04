-- Items that stand one below the other and have no fault, as most pages have them.
use Rattle.std.specs.Prelude.{◌/◌, ◌%◌, ◌≤◌, false, ◌≡◌, ℕ, ◌<◌, Bool, true, ◌||◌, not, ◌==◌, List, [], None}
use Rattle.std.specs.List.{list_all}
use Rattle.page_check.specs.declared.fields.Kind.{Kind}
use Rattle.page_check.specs.declared.fields.Kind.TheVariants.{Unused, Normal, Redirect, Dead}
use Rattle.page_check.specs.declared.fields.LinePointer.{LinePointer}
use Rattle.heap_tuple.specs.declared.header.TupleHeader.{TupleHeader}
use Rattle.page_faults.specs.declared.options.CheckOptions.{CheckOptions}
use Rattle.page_faults.specs.Places.{owner_of, placed_items}
use Rattle.page_faults.specs.TupleFaults.{tuple_faults}
use Rattle.page_faults.specs.ItemFaults.{header_of_item, items_faults, is_wrong_unused}
use Rattle.page_faults.specs.ItemFaults.{is_wrong_redirect}
use Rattle.page_faults.specs.Misplaced.{names_itself, witnesses_of}

-- something is wrong with a line pointer that is not normal
abbrev pub is_wrong_other_of : Kind → List ℕ → LinePointer → Bool
is_wrong_other_of Unused page pointer = is_wrong_unused pointer
is_wrong_other_of Redirect page pointer = is_wrong_redirect page pointer
is_wrong_other_of Normal page pointer = false
is_wrong_other_of Dead page pointer = false

abbrev pub is_wrong_other : List ℕ → LinePointer → Bool
is_wrong_other page pointer = is_wrong_other_of pointer.kind page pointer

-- it has no fault, and names this block if it names itself
pub record IsGoodTuple (options : CheckOptions) (block length : ℕ) (header : TupleHeader)
    : Type 0 where
  pub none : (item : ℕ) → tuple_faults options item length header ≡ []
  pub here : (header.block == block || not (names_itself header)) ≡ true

-- the item at an index names this block
abbrev pub names_block : ℕ → List ℕ → ℕ → Bool
names_block block page index = (header_of_item page index).block == block

-- the items below an index have no fault and no bytes below this begin, and those that name
-- themselves name this block
pub record AreGood (options : CheckOptions) (block : ℕ) (page : List ℕ) (index begin : ℕ)
    : Type 0 where
  pub none : items_faults options page index ≡ []
  pub aligned : begin % 8 ≡ 0
  pub within : begin ≤ 8192
  pub free : (piece : ℕ) → piece < begin / 8 → owner_of page (placed_items page index) piece ≡ None
  pub here : list_all (names_block block page) (witnesses_of page (placed_items page index)) ≡ true
