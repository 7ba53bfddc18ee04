-- Whether a page may be used, as `PageIsVerified` of `bufpage.c` says on a server with checksums
-- off.
use Rattle.std.specs.Prelude.{◌≢◌, ℕ, ◌%◌, Bool, ◌&&◌, not, ◌==◌, nat_le, List, if◌then◌else◌}
use Rattle.std.specs.List.{list_all}
use Rattle.page_check.specs.Fields.{header_of}
use Rattle.page_check.specs.declared.fields.PageHeader.{PageHeader}
use Rattle.page_check.specs.declared.verdict.Verdict.{Verdict}
use Rattle.page_check.specs.declared.verdict.Verdict.TheVariants.{Zero, Sane, Bad}

-- no byte is set
abbrev pub is_all_zero : List ℕ → Bool
is_all_zero page = list_all (λ byte. byte == 0) page

-- not new (`PageIsNew`: upper is 0), no flag outside `PD_VALID_FLAG_BITS`,
-- lower <= upper <= special <= `BLCKSZ`, and special aligned (`MAXALIGN`)
abbrev pub is_sane : PageHeader → Bool
is_sane header =
    not (header.upper == 0) && nat_le header.flags 7 && nat_le header.lower header.upper
    && nat_le header.upper header.special && nat_le header.special 8192 && (header.special % 8 == 0)

-- all bytes zero, a sane header, or neither
unfoldable pub verdict_of : List ℕ → Verdict
verdict_of page =
    if is_all_zero page then Zero else (if is_sane (header_of page) then Sane else Bad)

-- a page that is not Bad
abbrev pub IsValid : List ℕ → Type 0
IsValid page = verdict_of page ≢ Bad
