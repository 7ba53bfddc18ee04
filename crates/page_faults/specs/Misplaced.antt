-- Whether a page stands in the place of another one.
use Rattle.std.specs.Prelude.{◌≡◌, ℕ, ◌+◌, Bool, ◌&&◌, not, ◌==◌, nat_lt, List, [], ◌∷◌, filter}
use Rattle.std.specs.Prelude.{Option, Some, None, unwrap_or}
use Rattle.std.specs.List.{list_all}
use Rattle.page_check.specs.LinePointers.{line_pointer_count}
use Rattle.heap_tuple.specs.declared.header.TupleHeader.{TupleHeader}
use Rattle.page_faults.specs.declared.fault.Fault as fault
use Rattle.page_faults.specs.declared.fault.Fault.{Fault}
use Rattle.page_faults.specs.declared.witnesses.Witnesses.{Witnesses}
use Rattle.page_faults.specs.declared.options.CheckOptions.{CheckOptions}
use Rattle.page_faults.specs.HeaderFaults.{fault_if, is_verified}
use Rattle.page_faults.specs.Places.{placed_items}
use Rattle.page_faults.specs.TupleFaults.{is_frozen}
use Rattle.page_faults.specs.ItemFaults.{header_of_item}

-- a tuple that nobody updated or locked, made by a transaction: its `t_ctid` names itself. One that
-- is frozen may have been updated by a transaction that was rolled back.
abbrev pub names_itself : TupleHeader → Bool
names_itself header = header.xmax == 0 && nat_lt 2 header.xmin && not (is_frozen header)

-- those of these items
unfoldable pub witnesses_of : List ℕ → List ℕ → List ℕ
witnesses_of page items = filter (λ index. names_itself (header_of_item page index)) items

-- `t_ctid` is that of the item at an index of a block
abbrev pub is_at : TupleHeader → ℕ → ℕ → Bool
is_at header block index = header.block == block && header.position == index + 1

-- the item at this index names itself in this block
unfoldable pub is_of_block : List ℕ → ℕ → ℕ → Bool
is_of_block page block index = is_at (header_of_item page index) block index

-- there are some, all are of one and the same other block, and no checksum shows the page to be of
-- this one
abbrev pub misplaced_by : Bool → ℕ → List ℕ → List ℕ → List Fault
misplaced_by verified block page [] = []
misplaced_by verified block page (first ∷ others) =
    let named = (header_of_item page first).block in
    fault_if (not (named == block) && list_all (is_of_block page named) (first ∷ others)
    && not verified) (fault.TheVariants.Misplaced named)

unfoldable pub misplaced_faults : CheckOptions → ℕ → List ℕ → List Fault
misplaced_faults options block page =
    misplaced_by (is_verified options block page) block page
    (witnesses_of page (placed_items page (line_pointer_count page)))

-- the block that the first of these items names
abbrev pub first_named : List ℕ → List ℕ → Option ℕ
first_named page [] = None
first_named page (first ∷ others) = Some (header_of_item page first).block

-- what is kept of the witnesses among these items: the block that the first names, and whether all
-- are of that block
pub record AreWitnesses (page items : List ℕ) (kept : Witnesses) : Type 0 where
  pub named : kept.named ≡ first_named page (witnesses_of page items)
  pub agree : kept.agree ≡ list_all (is_of_block page (unwrap_or kept.named 0))
      (witnesses_of page items)
