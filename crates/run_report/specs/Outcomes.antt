-- The exit status of an outcome, and the line that names it.
use Rattle.std.specs.Prelude.{ℕ, List, [], ◌∷◌, codes, decimal, Bool, true, false}
use Rattle.std.specs.Prelude.{Option, Some, None}
use Rattle.std.specs.List.{concat}
use Rattle.page_check.specs.SynchronousAnswer.{Ending, End, PastEnd, Invalid as EndsInvalid}
use Rattle.page_check.specs.SynchronousAnswer.{Unread as EndsUnread}
use Rattle.request_list.specs.RequestList.{Request, request}
use Rattle.run_report.specs.declared.report.Outcome.{Outcome}
use Rattle.run_report.specs.declared.report.Outcome.TheVariants.{Done, Invalid, Usage, CannotOpen}
use Rattle.run_report.specs.declared.report.Outcome.TheVariants.{NoLength, Unread, CannotWrite}
use Rattle.run_report.specs.declared.report.Outcome.TheVariants.{NoMemory, Missing, TooLong}
use Rattle.run_report.specs.declared.report.Outcome.TheVariants.{FaultsFound}

abbrev pub status_of : Outcome → ℕ
status_of Done = 0
status_of FaultsFound = 1
status_of (Invalid r b) = 1
status_of Usage = 2
status_of CannotOpen = 3
status_of (NoLength r) = 3
status_of (Unread r b) = 3
status_of CannotWrite = 4
status_of NoMemory = 5
status_of (Missing r b) = 6
status_of (TooLong r) = 7

-- the line on the error stream; none where all was listed
abbrev pub outcome_line : Outcome → List ℕ
outcome_line Done = []
outcome_line FaultsFound = []
outcome_line (Invalid r b) =
    concat (codes "invalid page " ∷ decimal r ∷ codes " " ∷ decimal b ∷ codes "\n" ∷ [])
outcome_line Usage = codes "usage: aioscan [options] FILE...\n"
outcome_line CannotOpen = codes "cannot open\n"
outcome_line (NoLength r) = concat (codes "no length " ∷ decimal r ∷ codes "\n" ∷ [])
outcome_line (Unread r b) =
    concat (codes "unread page " ∷ decimal r ∷ codes " " ∷ decimal b ∷ codes "\n" ∷ [])
outcome_line CannotWrite = codes "cannot write\n"
outcome_line NoMemory = codes "out of memory\n"
outcome_line (Missing r b) =
    concat (codes "no page " ∷ decimal r ∷ codes " " ∷ decimal b ∷ codes "\n" ∷ [])
outcome_line (TooLong r) = concat (codes "relation " ∷ decimal r ∷ codes " is too long\n" ∷ [])

-- the run was refused before any block was read
abbrev pub is_refused : Outcome → Bool
is_refused Usage = true
is_refused CannotOpen = true
is_refused (NoLength r) = true
is_refused (TooLong r) = true
is_refused _ = false

-- a listing may end so; a fault is found behind it
abbrev pub can_end_listing : Outcome → Bool
can_end_listing Done = true
can_end_listing (Invalid r b) = true
can_end_listing (Missing r b) = true
can_end_listing (Unread r b) = true
can_end_listing CannotWrite = true
can_end_listing NoMemory = true
can_end_listing _ = false

-- a text may not have been written whole
abbrev pub is_output_cut_off : Outcome → Bool
is_output_cut_off CannotWrite = true
is_output_cut_off NoMemory = true
is_output_cut_off _ = false

-- the run was not refused and found memory: with `--stats` its totals are told
abbrev pub has_totals : Outcome → Bool
has_totals Done = true
has_totals FaultsFound = true
has_totals (Invalid r b) = true
has_totals (Unread r b) = true
has_totals CannotWrite = true
has_totals (Missing r b) = true
has_totals _ = false

-- the block that an outcome names
abbrev pub named_block : Outcome → Option Request
named_block (Invalid r b) = Some (request r b)
named_block (Missing r b) = Some (request r b)
named_block (Unread r b) = Some (request r b)
named_block _ = None

-- how the request list was answered by then
abbrev pub outcome_ending : Outcome → Option Ending
outcome_ending Done = Some End
outcome_ending (Invalid r b) = Some (EndsInvalid b)
outcome_ending (Missing r b) = Some (PastEnd b)
outcome_ending (Unread r b) = Some (EndsUnread b)
outcome_ending _ = None

-- 1 where the outcome names a block that was not read
abbrev pub unread_count : Outcome → ℕ
unread_count (Unread r b) = 1
unread_count _ = 0
