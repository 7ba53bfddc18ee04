-- What a job has listed: the text, the warnings and the sums of the pages that were given for its
-- blocks, and how it ended.
use Rattle.std.specs.Prelude.{◌≡◌, ℕ, List, [], ◌∷◌, map, Option, Some, None}
use Rattle.std.specs.List.{range_with_len}
use Rattle.page_check.specs.SynchronousAnswer.{Entry, Given, Ending, Reading}
use Rattle.page_check.specs.IsAnswer.{IsAnswer}
use Rattle.heap_scan.specs.Listing.{PageFormat, listing}
use Rattle.heap_scan.specs.Warnings.{warnings_of}
use Rattle.heap_scan.specs.Sums.{sums_of}
use Rattle.heap_scan.specs.declared.sums.PageSums.{PageSums}

-- a block without data of the asker's
abbrev pub block_entry : ℕ → ℕ → Entry (Unit {0})
block_entry relation block = record { relation = relation; block = block; per_buffer_data = tt }

-- the blocks that a job is to list: so many of a relation, from one on
abbrev pub job_entries : ℕ → ℕ → ℕ → List (Entry (Unit {0}))
job_entries relation first count = map (block_entry relation) (range_with_len first count)

-- the endings that were answered: none where the job stopped before one was
abbrev pub endings_of : Option Ending → List Ending
endings_of None = []
endings_of (Some end) = end ∷ []

-- text, warnings and sums are those of pages that, with this ending, answer the blocks; each page
-- has the text that is given for it
pub record IsJobAnswer {P : Type 0} (format : PageFormat) (found : Reading)
    (may : Entry P → Type 0) (entries : List (Entry P)) (text warnings : List ℕ) (sums : PageSums)
    (end : Option Ending) : Type 0 where
  pub pages : List (Given P)
  pub text_is : text ≡ listing format pages
  pub warnings_are : warnings ≡ warnings_of pages
  pub sums_are : sums ≡ sums_of format pages
  pub answers : IsAnswer found may entries (record { pages = pages; endings = endings_of end })
