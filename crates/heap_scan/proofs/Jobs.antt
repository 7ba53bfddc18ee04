-- Jobs that come one after the other.
use Rattle.std.proofs.Common.{◌≡◌, ◌≢◌, ℕ, List, ◌++◌, sym}
use Rattle.std.specs.Prelude.{Option, Some}
use Rattle.std.specs.List.{All}
use Rattle.std.proofs.lemmas.Grind.{flat_map-append}
use Rattle.page_check.specs.SynchronousAnswer.{Entry, Given, Ending, End, Reading}
use Rattle.page_check.proofs.AnswersOfLists.{answered_append, answered_more}
use Rattle.heap_scan.specs.Listing.{PageFormat, listing, text_for}
use Rattle.heap_scan.specs.Warnings.{warning_for, warnings_of}
use Rattle.heap_scan.specs.Job.{endings_of, IsJobAnswer}
use Rattle.heap_scan.specs.Sums.{sums_joined}
use Rattle.heap_scan.specs.declared.sums.PageSums.{PageSums}
use Rattle.heap_scan.proofs.SumsOverPages.{sums_of-append}

-- the end of a job that did not reach the end of its blocks
abbrev pub IsEarly : Option Ending → Type 0
IsEarly end = All (λ e. e ≢ End) (endings_of end)

module _ {P : Type 0} where
  pub listing-append : (format : PageFormat) (xs ys : List (Given P))
      → listing format (xs ++ ys) ≡ listing format xs ++ listing format ys
  unfolding listing
  listing-append format xs ys = flat_map-append (text_for format) xs ys

  pub warnings-append : (xs ys : List (Given P))
      → warnings_of (xs ++ ys) ≡ warnings_of xs ++ warnings_of ys
  unfolding warnings_of
  warnings-append xs ys = flat_map-append warning_for xs ys

  -- a job that was listed to its end, and then another
  unfoldable pub job_append : (format : PageFormat) (found : Reading)
      (may : Entry P → Type 0) (xs ys : List (Entry P)) (front back early late : List ℕ)
      (some more : PageSums) (end : Option Ending)
      → IsJobAnswer format found may xs front early some (Some End)
      → IsJobAnswer format found may ys back late more end
      → IsJobAnswer format found may (xs ++ ys) (front ++ back) (early ++ late)
      (sums_joined some more) end
  job_append format found may xs ys front back early late some more end first second = record {
    pages = first.pages ++ second.pages;
    text_is = (let one = first.text_is in let two = second.text_is in
        rw (one, two) (sym (listing-append format first.pages second.pages)));
    warnings_are = (let one = first.warnings_are in let two = second.warnings_are in
        rw (one, two) (sym (warnings-append first.pages second.pages)));
    sums_are = (let one = first.sums_are in let two = second.sums_are in
        rw (one, two) (sym (sums_of-append format first.pages second.pages)));
    answers =
        answered_append found may xs ys first.pages second.pages (endings_of end) first.answers
        second.answers;
  }

  -- a job that did not reach the end of its blocks is one of more
  unfoldable pub job_more : (format : PageFormat) (found : Reading) (may : Entry P → Type 0)
      (xs ys : List (Entry P)) (text warnings : List ℕ) (sums : PageSums) (end : Option Ending)
      → IsEarly end → IsJobAnswer format found may xs text warnings sums end
      → IsJobAnswer format found may (xs ++ ys) text warnings sums end
  job_more format found may xs ys text warnings sums end early job = record {
    pages = job.pages;
    text_is = job.text_is;
    warnings_are = job.warnings_are;
    sums_are = job.sums_are;
    answers = answered_more found may xs ys job.pages (endings_of end) early job.answers;
  }
