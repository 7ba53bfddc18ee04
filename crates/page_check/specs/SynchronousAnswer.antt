-- What one thread's synchronous reads give for a list of blocks.
use Rattle.std.specs.Prelude.{◌≡◌, ℕ, Bool, true, false, nat_le, if◌then◌else◌, List, [], map, take}
use Rattle.std.specs.Prelude.{slice_get, replicate}
use Rattle.std.specs.Prelude.{Option, Some, None}
use Rattle.std.specs.List.{prefix_len}
use Rattle.page_check.specs.declared.verdict.Verdict.{Verdict}
use Rattle.page_check.specs.declared.verdict.Verdict.TheVariants.{Zero, Sane, Bad}
use Rattle.page_check.specs.declared.rules.PageRules.{PageRules}
use Rattle.page_check.specs.declared.rules.DamagedPages.{DamagedPages}
use Rattle.page_check.specs.declared.rules.DamagedPages.TheVariants as damaged_pages
use Rattle.page_check.specs.declared.rules.DamagedPages.TheVariants.{Refuse, Give}
use Rattle.page_check.specs.declared.rules.PageMark.{PageMark}
use Rattle.page_check.specs.declared.rules.PageMark.TheVariants.{Valid, Zeroed, Damaged}
use Rattle.page_check.specs.Verdict.{IsValid}
use Rattle.page_check.specs.Checksum.{verdict_as, IsValidAs}
use Rattle.page_check.specs.Told.{Told, relation_block_count, relation_page}

-- a block that is asked for, with the data that the asker keeps for it (`per_buffer_data` of
-- `read_stream.h`)
pub record Entry (P : Type 0) : Type 0 where
  pub relation : ℕ
  pub block : ℕ
  pub per_buffer_data : P

-- a page that was given for an entry, and what is said of it
pub record Given (P : Type 0) : Type 0 where
  pub entry : Entry P
  pub page : List ℕ
  pub mark : PageMark

-- how a list of entries ends: behind its last page, or at a block that has none to give
pub data Ending : Type 0 where
  End : Ending
  Invalid : (block : ℕ) → Ending
  PastEnd : (block : ℕ) → Ending
  Unread : (block : ℕ) → Ending

-- a page without a set byte
abbrev pub zero_page : List ℕ
zero_page = replicate 8192 0

-- what a block gives: a page and what is said of it, or none since its page is Bad, or that there is
-- no such block
pub data Found : Type 0 where
  Page : (mark : PageMark) → (bytes : List ℕ) → Found
  BadPage : Found
  Absent : Found

-- the page, where the verdict on it is not Bad; else as the rule on damaged pages says
abbrev pub found_by_verdict : DamagedPages → Verdict → List ℕ → Found
found_by_verdict damaged Zero page = Page Valid page
found_by_verdict damaged Sane page = Page Valid page
found_by_verdict Refuse Bad page = BadPage
found_by_verdict damaged_pages.Zero Bad page = Page Zeroed zero_page
found_by_verdict Give Bad page = Page Damaged page

-- what each block of each relation gives
abbrev pub Reader : Type 0
Reader = ℕ → ℕ → Found

-- by the contents that are told, and how pages are read
unfoldable pub found_at : PageRules → Told → Reader
found_at rules told relation block =
    if nat_le (relation_block_count told relation) block then Absent
    else found_by_verdict rules.damaged
    (verdict_as rules.checksums block (relation_page told relation block))
    (relation_page told relation block)

-- what a mark says of a page that is read so, and given for this block
abbrev pub IsMarkedAs : PageRules → ℕ → PageMark → List ℕ → Type 0
IsMarkedAs rules block Valid page = IsValidAs rules.checksums block page
IsMarkedAs rules block Zeroed page = (rules.damaged ≡ damaged_pages.Zero) × (page ≡ zero_page)
IsMarkedAs rules block Damaged page =
    (rules.damaged ≡ Give) × (verdict_as rules.checksums block page ≡ Bad)

-- which marks there may be, by the rule on damaged pages
abbrev pub AllowsMark : DamagedPages → PageMark → Type 0
AllowsMark damaged Valid = Unit {0}
AllowsMark damaged Zeroed = damaged ≡ damaged_pages.Zero
AllowsMark damaged Damaged = damaged ≡ Give

-- a page that is not marked as damaged is valid
abbrev pub IsValidUnlessDamaged : PageMark → List ℕ → Type 0
IsValidUnlessDamaged Valid page = IsValid page
IsValidUnlessDamaged Zeroed page = IsValid page
IsValidUnlessDamaged Damaged page = Unit {0}

-- what is known of the pages that are read: what each block gives, or, where nothing is told, how
-- they are read
pub data Reading : Type 0 where
  Known : (found : Reader) → Reading
  Unknown : (rules : PageRules) → Reading

abbrev pub IfKnown : Reading → (Reader → Type 0) → Type 0
IfKnown (Known found) holds = holds found
IfKnown (Unknown rules) holds = Unit {0}

abbrev pub IfUnknown : Reading → (PageRules → Type 0) → Type 0
IfUnknown (Known found) holds = Unit {0}
IfUnknown (Unknown rules) holds = holds rules

abbrev pub reading_of : PageRules → Option Told → Reading
reading_of rules None = Unknown rules
reading_of rules (Some told) = Known (found_at rules told)

abbrev pub is_page : Found → Bool
is_page (Page mark bytes) = true
is_page BadPage = false
is_page Absent = false

abbrev pub found_mark : Found → PageMark
found_mark (Page mark bytes) = mark
found_mark BadPage = Valid
found_mark Absent = Valid

abbrev pub found_page : Found → List ℕ
found_page (Page mark bytes) = bytes
found_page BadPage = []
found_page Absent = []

-- where a list ends, by what was found at its entry of this block
abbrev pub found_ending : Found → ℕ → Ending
found_ending (Page mark bytes) block = End
found_ending BadPage block = Invalid block
found_ending Absent block = PastEnd block

module _ {P : Type 0} where
  abbrev pub entry_found : Reader → Entry P → Found
  entry_found found e = found e.relation e.block

  abbrev pub can_read : Reader → Entry P → Bool
  can_read found e = is_page (entry_found found e)

  -- what was found, given for the entry
  abbrev pub found_given : Found → Entry P → Given P
  found_given found e = record { entry = e; page = found_page found; mark = found_mark found }

  abbrev pub entry_given : Reader → Entry P → Given P
  entry_given found e = found_given (entry_found found e) e

  -- how many entries stand before the first that gives no page
  unfoldable pub read_count : Reader → List (Entry P) → ℕ
  read_count found entries = prefix_len (can_read found) entries

  -- the pages of these entries
  abbrev pub readable_pages : Reader → List (Entry P) → List (Given P)
  readable_pages found entries = map (entry_given found) (take (read_count found entries) entries)

  -- the first entry that gives no page, if there is one
  abbrev pub first_stop : Reader → List (Entry P) → Option (Entry P)
  first_stop found entries = slice_get entries (read_count found entries)

  abbrev pub stop_ending : Reader → Option (Entry P) → Ending
  stop_ending found None = End
  stop_ending found (Some e) = found_ending (entry_found found e) e.block

  -- and how the list ends there
  abbrev pub list_ending : Reader → List (Entry P) → Ending
  list_ending found entries = stop_ending found (first_stop found entries)
