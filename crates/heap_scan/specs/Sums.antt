-- Sums over pages: how many there are, how many of them are all zeros, how many line pointers they
-- have, and how many faults were told of them.
use Rattle.std.specs.Prelude.{ℕ, ◌+◌, ◌<◌, ◌^◌, List, length, sum_by}
use Rattle.page_check.specs.declared.verdict.Verdict.{Verdict}
use Rattle.page_check.specs.declared.verdict.Verdict.TheVariants.{Zero, Sane, Bad}
use Rattle.page_check.specs.Verdict.{verdict_of}
use Rattle.page_check.specs.LinePointers.{line_pointer_count}
use Rattle.page_check.specs.SynchronousAnswer.{Given}
use Rattle.heap_scan.specs.Listing.{PageFormat, fault_count_for}
use Rattle.heap_scan.specs.declared.sums.PageSums.{PageSums}

-- 1 for a page of zeros
abbrev pub zero_page_count : Verdict → ℕ
zero_page_count Zero = 1
zero_page_count Sane = 0
zero_page_count Bad = 0

-- over pages that were given
unfoldable pub sums_of : {P : Type 0} → PageFormat → List (Given P) → PageSums
sums_of format given = record {
  pages = length given;
  zero = sum_by (λ g. zero_page_count (verdict_of g.page)) given;
  items = sum_by (λ g. line_pointer_count g.page) given;
  faults = sum_by (fault_count_for format) given;
}

-- with one page more, of which so many faults were told
abbrev pub sums_with_page : ℕ → PageSums → List ℕ → PageSums
sums_with_page faults sums page = record {
  pages = sums.pages + 1;
  zero = sums.zero + zero_page_count (verdict_of page);
  items = sums.items + line_pointer_count page;
  faults = sums.faults + faults;
}

-- of two lists together
abbrev pub sums_joined : PageSums → PageSums → PageSums
sums_joined front back = record {
  pages = front.pages + back.pages;
  zero = front.zero + back.zero;
  items = front.items + back.items;
  faults = front.faults + back.faults;
}

abbrev pub no_sums : PageSums
no_sums = record { pages = 0; zero = 0; items = 0; faults = 0 }

-- each sum fits its type
abbrev pub FitSums : PageSums → Type 0
FitSums sums = (sums.pages < 2 ^ 64) × (sums.zero < 2 ^ 64) × (sums.items < 2 ^ 64)
    × (sums.faults < 2 ^ 64)
