-- The fields of a page's header (`PageHeaderData` of `bufpage.h`): little-endian numbers at fixed
-- offsets.
use Rattle.std.specs.Prelude.{ℕ, ◌+◌, ◌*◌, ◌^◌, List, slice_index}
use Rattle.page_check.specs.declared.fields.PageHeader.{PageHeader}

-- the number of the two bytes from an offset on: the sum of byte i times 256 ^ i
unfoldable pub u16_at : List ℕ → ℕ → ℕ
u16_at page offset = slice_index page offset + 256 * slice_index page (offset + 1)

-- the number of the four bytes from an offset on
unfoldable pub u32_at : List ℕ → ℕ → ℕ
u32_at page offset =
    slice_index page offset + 256 * slice_index page (offset + 1)
    + 256 ^ 2 * slice_index page (offset + 2) + 256 ^ 3 * slice_index page (offset + 3)

-- the fields behind `pd_lsn`, the first eight bytes
unfoldable pub header_of : List ℕ → PageHeader
header_of page = record {
  checksum = u16_at page 8;
  flags = u16_at page 10;
  lower = u16_at page 12;
  upper = u16_at page 14;
  special = u16_at page 16;
  pagesize_version = u16_at page 18;
  prune_xid = u32_at page 20;
}
