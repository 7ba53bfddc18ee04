-- The text of faults: a line for each, which names the relation and the block.
use Rattle.std.specs.Prelude.{ℕ, List, [], ◌∷◌, ◌++◌, true, codes, decimal}
use Rattle.std.specs.List.{concat, flat_map}
use Rattle.std.specs.Fmt.{digits_onto}
use Rattle.page_check.specs.declared.fields.LinePointer.{LinePointer}
use Rattle.heap_scan.specs.PageText.{kind_word}
use Rattle.page_faults.specs.declared.options.CheckOptions.{CheckOptions}
use Rattle.page_faults.specs.declared.fault.Fault.{Fault}
use Rattle.page_faults.specs.declared.fault.Fault.TheVariants.{Header, Checksum, Lsn, Version, Lower}
use Rattle.page_faults.specs.declared.fault.Fault.TheVariants.{Item, Overlap, Hoff, Mask, Xmin, Xmax}
use Rattle.page_faults.specs.declared.fault.Fault.TheVariants.{Misplaced}
use Rattle.page_faults.specs.Faults.{faults_of}

-- the hexadecimal digits of a number of 32 bits, in upper case and without leading zeros
unfoldable pub hex : ℕ → List ℕ
hex number = digits_onto 8 16 true number []

-- `lsn HEX/HEX`, as pg_controldata writes it
abbrev pub lsn_text : ℕ → ℕ → List ℕ
lsn_text high low = concat (codes "lsn " ∷ hex high ∷ codes "/" ∷ hex low ∷ [])

-- `header flags N lower N upper N special N`
abbrev pub header_text : ℕ → ℕ → ℕ → ℕ → List ℕ
header_text flags lower upper special =
    concat (codes "header flags " ∷ decimal flags ∷ codes " lower " ∷ decimal lower
    ∷ codes " upper " ∷ decimal upper ∷ codes " special " ∷ decimal special ∷ [])

-- `item I KIND OFFSET LENGTH`
abbrev pub item_text : ℕ → LinePointer → List ℕ
item_text item pointer =
    concat (codes "item " ∷ decimal item ∷ codes " " ∷ kind_word pointer.kind
    ∷ codes " " ∷ decimal pointer.offset ∷ codes " " ∷ decimal pointer.length ∷ [])

-- `item I WORD N`
abbrev pub item_number_text : ℕ → List ℕ → ℕ → List ℕ
item_number_text item word number =
    concat (codes "item " ∷ decimal item ∷ word ∷ decimal number ∷ [])

-- what is told of a fault
abbrev pub what_text : Fault → List ℕ
what_text (Header flags lower upper special) = header_text flags lower upper special
what_text (Checksum stored computed) =
    concat (codes "checksum " ∷ decimal stored ∷ codes " expected " ∷ decimal computed ∷ [])
what_text (Lsn lsn) = lsn_text lsn.high lsn.low
what_text (Version version) = codes "version " ++ decimal version
what_text (Lower lower) = codes "lower " ++ decimal lower
what_text (Item item pointer) = item_text item pointer
what_text (Overlap item other) = item_number_text item (codes " overlaps ") other
what_text (Hoff item hoff expected) =
    item_number_text item (codes " hoff ") hoff ++ (codes " expected " ++ decimal expected)
what_text (Mask item mask) = item_number_text item (codes " mask ") mask
what_text (Xmin item xmin) = item_number_text item (codes " xmin ") xmin
what_text (Xmax item xmax) = item_number_text item (codes " xmax ") xmax
what_text (Misplaced block) = codes "misplaced " ++ decimal block

-- `fault R B WHAT`
unfoldable pub fault_line : ℕ → ℕ → Fault → List ℕ
fault_line relation block fault =
    concat (codes "fault " ∷ decimal relation ∷ codes " " ∷ decimal block ∷ codes " "
    ∷ what_text fault ∷ codes "\n" ∷ [])

-- the lines of faults, in order
unfoldable pub fault_lines : ℕ → ℕ → List Fault → List ℕ
fault_lines relation block faults = flat_map (fault_line relation block) faults

-- the lines of what is wrong with a page: nothing for a good one
unfoldable pub faults_text_of : CheckOptions → ℕ → ℕ → List ℕ → List ℕ
faults_text_of options relation block page =
    fault_lines relation block (faults_of options block page)
