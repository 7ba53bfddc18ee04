-- What is wrong with the header of a page.
use Rattle.std.specs.Prelude.{ℕ, ◌+◌, ◌*◌, ◌-◌, ◌%◌, ◌^◌, Bool, false, ◌&&◌, ◌||◌, not, ◌==◌}
use Rattle.std.specs.Prelude.{nat_lt, List, [], ◌∷◌, Option, Some, None, if◌then◌else◌}
use Rattle.page_check.specs.declared.fields.PageHeader.{PageHeader}
use Rattle.page_check.specs.Fields.{header_of, u32_at}
use Rattle.page_check.specs.Checksum.{checksum_of, has_checksum}
use Rattle.page_faults.specs.declared.options.Lsn.{Lsn}
use Rattle.page_faults.specs.declared.options.CheckOptions.{CheckOptions}
use Rattle.page_faults.specs.declared.fault.Fault as fault
use Rattle.page_faults.specs.declared.fault.Fault.{Fault}

-- a fault where a rule is broken
abbrev pub fault_if : Bool → Fault → List Fault
fault_if wrong fault = if wrong then fault ∷ [] else []

-- what is told of a header that is not sane
abbrev pub header_fault : PageHeader → Fault
header_fault header =
    fault.TheVariants.Header header.flags header.lower header.upper header.special

-- where checksums are looked at: the page has another one than it is to have as this block
unfoldable pub checksum_faults : CheckOptions → ℕ → List ℕ → List Fault
checksum_faults options block page =
    fault_if (options.checksums && not (has_checksum block page))
    (fault.TheVariants.Checksum (header_of page).checksum (checksum_of page block))

-- its checksum shows that it was written as this block
abbrev pub is_verified : CheckOptions → ℕ → List ℕ → Bool
is_verified options block page = options.checksums && has_checksum block page

-- the first field of a header, `pd_lsn` (`PageXLogRecPtr` of `bufpage.h`)
unfoldable pub lsn_of : List ℕ → Lsn
lsn_of page = record { high = u32_at page 0; low = u32_at page 4 }

-- both halves as one number (`PageXLogRecPtrGet`)
abbrev pub lsn_number : Lsn → ℕ
lsn_number lsn = 2 ^ 32 * lsn.high + lsn.low

-- behind the end of the write-ahead log, where that is known
abbrev pub is_behind : Option Lsn → Lsn → Bool
is_behind None lsn = false
is_behind (Some end) lsn = nat_lt (lsn_number end) (lsn_number lsn)

unfoldable pub lsn_faults : CheckOptions → List ℕ → List Fault
lsn_faults options page =
    fault_if (is_behind options.end_lsn (lsn_of page)) (fault.TheVariants.Lsn (lsn_of page))

-- `pd_pagesize_version` holds `BLCKSZ` plus `PG_PAGE_LAYOUT_VERSION`
unfoldable pub version_faults : List ℕ → List Fault
version_faults page =
    fault_if (not ((header_of page).pagesize_version == 8196))
    (fault.TheVariants.Version (header_of page).pagesize_version)

-- line pointers begin at 24 and have four bytes each
abbrev pub is_wrong_lower : ℕ → Bool
is_wrong_lower lower = nat_lt lower 24 || not ((lower - 24) % 4 == 0)

unfoldable pub lower_faults : List ℕ → List Fault
lower_faults page =
    fault_if (is_wrong_lower (header_of page).lower)
    (fault.TheVariants.Lower (header_of page).lower)
