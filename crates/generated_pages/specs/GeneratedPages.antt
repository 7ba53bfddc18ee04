-- Generated pages: every seventh is all zeros, and the others have 0 to 4 line pointers.
use Rattle.std.specs.Prelude.{ℕ, ◌+◌, ◌*◌, ◌-◌, ◌/◌, ◌%◌, ◌^◌, ◌==◌, List, [], ◌∷◌, ◌++◌, replicate}
use Rattle.std.specs.Prelude.{if◌then◌else◌, flat_map, codes}
use Rattle.std.specs.List.{range_with_len}
use Rattle.page_check.specs.Told.{Told, told_in}
use Rattle.aio_disk.specs.Shelf.{Files, files_in}

-- a number as two bytes, and as four, the low one first
abbrev pub two_bytes : ℕ → List ℕ
two_bytes n = n % 256 ∷ n / 256 ∷ []

abbrev pub four_bytes : ℕ → List ℕ
four_bytes n = two_bytes (n % 65536) ++ two_bytes (n / 65536)

-- the line pointer of item i, from 1 on: offset 8192 - 32i, normal, length 32
abbrev pub generated_pointer : ℕ → ℕ
generated_pointer i = (8192 - 32 * i) + 2 ^ 15 + 32 * 2 ^ 17

abbrev pub generated_pointer_bytes : ℕ → List ℕ
generated_pointer_bytes items =
    flat_map (λ i. four_bytes (generated_pointer i)) (range_with_len 1 items)

-- lower, upper, special and `pd_pagesize_version` of a page with so many items, in a header of
-- zeros
abbrev pub generated_header : ℕ → List ℕ
generated_header items =
    replicate 12 0
    ++ (two_bytes (24 + 4 * items) ++ (two_bytes (8192 - 32 * items)
    ++ (two_bytes 8192 ++ (two_bytes 8196 ++ replicate 4 0))))

-- a page with so many items
abbrev pub page_with_items : ℕ → List ℕ
page_with_items items = generated_header items
    ++ (generated_pointer_bytes items ++ replicate (8168 - 4 * items) 0)

-- the page of a block
unfoldable pub generated_page : ℕ → List ℕ
generated_page block = if block % 7 == 6 then replicate 8192 0 else page_with_items (block % 5)

-- a relation of so many pages
unfoldable pub generated_file : ℕ → List ℕ
generated_file pages = flat_map generated_page (range_with_len 0 pages)

-- the shelf of these pages has one file
abbrev pub generated_file_name : List ℕ
generated_file_name = codes "made"

abbrev pub generated_shelf_files : ℕ → Files
generated_shelf_files pages = files_in 131072 ((generated_file_name, generated_file pages) ∷ [])

-- and tells one relation of one segment
abbrev pub generated_told : ℕ → Told
generated_told pages = told_in 131072 ((generated_file pages ∷ []) ∷ [])
