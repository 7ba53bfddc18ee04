-- The checksum of a page (`pg_checksum_page` of `checksum_impl.h`): 32 columns of words are hashed
-- side by side, as FNV-1a hashes bytes. The number of the block is mixed in, so that a page in the
-- place of another one shows.
use Rattle.std.specs.Prelude.{ℕ, zero, suc, ◌+◌, ◌*◌, ◌/◌, ◌%◌, ◌^◌, List, [], ◌∷◌}
use Rattle.std.specs.Prelude.{◌==◌, ◌&&◌, ◌||◌, ◌≢◌, Bool, not, if◌then◌else◌}
use Rattle.std.specs.Prelude.{slice_index, slice_set, bit_xor}
use Rattle.page_check.specs.Fields.{u32_at, header_of}
use Rattle.page_check.specs.Verdict.{is_all_zero, is_sane}
use Rattle.page_check.specs.declared.verdict.Verdict.{Verdict}
use Rattle.page_check.specs.declared.verdict.Verdict.TheVariants.{Zero, Sane, Bad}

-- what the sum of each column begins with (`checksumBaseOffsets`)
abbrev pub base_offsets : List ℕ
base_offsets =
    0x5B1F36E9 ∷ 0xB8525960 ∷ 0x02AB50AA ∷ 0x1DE66D2A ∷ 0x79FF467A ∷ 0x9BB9F8A3 ∷ 0x217E7CD2
    ∷ 0x83E13D2C ∷ 0xF8D4474F ∷ 0xE39EB970 ∷ 0x42C6AE16 ∷ 0x993216FA ∷ 0x7B093B5D ∷ 0x98DAFF3C
    ∷ 0xF718902A ∷ 0x0B1C9CDB ∷ 0xE58F764B ∷ 0x187636BC ∷ 0x5D7B3BB1 ∷ 0xE73DE7DE ∷ 0x92BEC979
    ∷ 0xCCA6C0B2 ∷ 0x304A0979 ∷ 0x85AA43D4 ∷ 0x783125BB ∷ 0x6CA8EAA2 ∷ 0xE407EAC6 ∷ 0x4B5CFC3E
    ∷ 0x9FBF8C76 ∷ 0x15CA20BE ∷ 0xF2CA9FD3 ∷ 0x959BD756 ∷ []

-- a sum with one word more (`CHECKSUM_COMP`): times `FNV_PRIME`, but its high bits are kept
abbrev pub sum_with_word : ℕ → ℕ → ℕ
sum_with_word sum word =
    bit_xor (bit_xor sum word * 16777619 % 2 ^ 32) (bit_xor sum word / 2 ^ 17)

-- the page with this in its `pd_checksum`, two bytes (`PageSetChecksumInplace` of `bufpage.c`)
abbrev pub with_checksum : ℕ → List ℕ → List ℕ
with_checksum sum page = slice_set (slice_set page 8 (sum % 256)) 9 (sum / 256)

-- the page with 0 there
abbrev pub without_checksum : List ℕ → List ℕ
without_checksum page = with_checksum 0 page

-- the word in a row and a column, of 32 in each row
abbrev pub word_of : List ℕ → ℕ → ℕ → ℕ
word_of page row column = u32_at page (128 * row + 4 * column)

-- the sum of a column over the first rows
unfoldable pub column_sum : List ℕ → ℕ → ℕ → ℕ
column_sum page column zero = slice_index base_offsets column
column_sum page column (suc row) =
    sum_with_word (column_sum page column row) (word_of page row column)

-- over the 64 rows of a page, and two rows of zeros
unfoldable pub whole_sum : List ℕ → ℕ → ℕ
whole_sum page column = sum_with_word (sum_with_word (column_sum page column 64) 0) 0

-- the sums of the first columns in one
unfoldable pub columns_joined : List ℕ → ℕ → ℕ
columns_joined page zero = 0
columns_joined page (suc column) = bit_xor (columns_joined page column) (whole_sum page column)

-- what `pd_checksum` is to be, from 1 to 65535: 0 is that of no page
unfoldable pub checksum_of : List ℕ → ℕ → ℕ
checksum_of page block = bit_xor (columns_joined (without_checksum page) 32) block % 65535 + 1

-- the page has the checksum that it is to have as this block
abbrev pub has_checksum : ℕ → List ℕ → Bool
has_checksum block page = (header_of page).checksum == checksum_of page block

-- whether a page may be used as this block: as `PageIsVerified` says on a server with checksums on,
-- or off
unfoldable pub verdict_as : Bool → ℕ → List ℕ → Verdict
verdict_as checksums block page =
    if is_all_zero page then Zero
    else (if is_sane (header_of page) && (not checksums || has_checksum block page) then Sane
    else Bad)

-- a page that is not Bad so
abbrev pub IsValidAs : Bool → ℕ → List ℕ → Type 0
IsValidAs checksums block page = verdict_as checksums block page ≢ Bad
