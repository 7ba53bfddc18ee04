-- The line pointers of a page (`ItemIdData` of `itemid.h`), four bytes each behind the header of 24
-- bytes.
use Rattle.std.specs.Prelude.{ℕ, zero, suc, ◌+◌, ◌*◌, ◌-◌, ◌/◌, ◌%◌, ◌^◌, List, map}
use Rattle.std.specs.List.{range_with_len}
use Rattle.page_check.specs.Fields.{header_of, u32_at}
use Rattle.page_check.specs.declared.fields.Kind.{Kind}
use Rattle.page_check.specs.declared.fields.Kind.TheVariants.{Unused, Normal, Redirect, Dead}
use Rattle.page_check.specs.declared.fields.LinePointer.{LinePointer}

-- how many stand below lower (`PageGetMaxOffsetNumber`): none where lower is at most 24, since `-`
-- stops at 0
unfoldable pub line_pointer_count : List ℕ → ℕ
line_pointer_count page = ((header_of page).lower - 24) / 4

-- what the flags 0 to 3 mean (`LP_UNUSED`, `LP_NORMAL`, `LP_REDIRECT`, `LP_DEAD`)
abbrev pub kind_of : ℕ → Kind
kind_of zero = Unused
kind_of (suc zero) = Normal
kind_of (suc (suc zero)) = Redirect
kind_of (suc (suc (suc n))) = Dead

-- the line pointer that is packed in a number: `lp_off` in 15 bits, `lp_flags` in two, `lp_len` in
-- 15
abbrev pub line_pointer_in : ℕ → LinePointer
line_pointer_in number = record {
  offset = number % 2 ^ 15;
  kind = kind_of (number / 2 ^ 15 % 4);
  length = number / 2 ^ 17;
}

-- the line pointer at an index, the first at 0
unfoldable pub line_pointer_of : List ℕ → ℕ → LinePointer
line_pointer_of page index = line_pointer_in (u32_at page (24 + 4 * index))

-- all of them, in order
unfoldable pub line_pointers_of : List ℕ → List LinePointer
line_pointers_of page = map (line_pointer_of page) (range_with_len 0 (line_pointer_count page))
