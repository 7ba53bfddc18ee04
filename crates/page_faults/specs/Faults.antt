-- The faults of a page.
use Rattle.std.specs.Prelude.{ℕ, List, [], ◌∷◌, ◌++◌, ◌==◌, if◌then◌else◌}
use Rattle.page_check.specs.declared.verdict.Verdict.{Verdict}
use Rattle.page_check.specs.declared.verdict.Verdict.TheVariants.{Zero, Sane, Bad}
use Rattle.page_check.specs.Fields.{header_of}
use Rattle.page_check.specs.Verdict.{verdict_of}
use Rattle.page_check.specs.LinePointers.{line_pointer_count}
use Rattle.page_faults.specs.declared.options.CheckOptions.{CheckOptions}
use Rattle.page_faults.specs.declared.fault.Fault.{Fault}
use Rattle.page_faults.specs.HeaderFaults.{header_fault, checksum_faults, lsn_faults, version_faults}
use Rattle.page_faults.specs.HeaderFaults.{lower_faults}
use Rattle.page_faults.specs.ItemFaults.{items_faults}
use Rattle.page_faults.specs.Misplaced.{misplaced_faults}

-- a page with a special space is one of an index, and no rule here knows its items
unfoldable pub heap_faults : CheckOptions → ℕ → List ℕ → List Fault
heap_faults options block page =
    if (header_of page).special == 8192
    then lower_faults page ++ items_faults options page (line_pointer_count page)
    ++ misplaced_faults options block page
    else []

-- by the verdict: a page of zeros is new; where the header is not sane, nothing is known of what
-- stands behind it
abbrev pub faults_by : Verdict → CheckOptions → ℕ → List ℕ → List Fault
faults_by Zero options block page = []
faults_by Bad options block page =
    header_fault (header_of page) ∷ checksum_faults options block page
faults_by Sane options block page =
    checksum_faults options block page ++ lsn_faults options page ++ version_faults page
    ++ heap_faults options block page

-- what is wrong with the page of this block, in the order in which it is told
unfoldable pub faults_of : CheckOptions → ℕ → List ℕ → List Fault
faults_of options block page = faults_by (verdict_of page) options block page
