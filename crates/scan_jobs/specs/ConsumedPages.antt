-- What becomes of the pages that a stream gives.
use Rattle.std.specs.Prelude.{◌≡◌, ◌≢◌, ℕ, List, ◌∷◌, [], ◌++◌, map, Option, Some, None}
use Rattle.std.specs.Prelude.{take, drop, length}
use Rattle.std.specs.List.{All}
use Rattle.page_check.specs.IsAnswer.{IsAnswer, Next as Said, Page, Stop}
use Rattle.page_check.specs.SynchronousAnswer.{Entry, Given, Ending as SaidEnding, reading_of}
use Rattle.page_check.specs.Told.{Told}
use Rattle.page_check.specs.PageBytes.{IsPage}
use Rattle.page_check.specs.declared.rules.PageRules.{PageRules}
use Rattle.page_check.specs.declared.rules.DamagedPages.TheVariants as damaged_pages
use Rattle.page_check.specs.declared.rules.PageMark.TheVariants.{Zeroed}
use Rattle.heap_scan.specs.Job.{endings_of}
use Rattle.heap_scan.specs.Listing.{PageFormat, listing}
use Rattle.heap_scan.specs.Sums.{sums_of}
use Rattle.heap_scan.specs.Warnings.{warnings_of}
use Rattle.vis_map.specs.Bits.{Map}
use Rattle.scan_jobs.specs.Jobs.{job_ending}
use Rattle.scan_jobs.specs.declared.job.Ending.{Ending}
use Rattle.scan_jobs.specs.declared.job.Ending.TheVariants as ending
use Rattle.scan_jobs.specs.declared.job.Job.{Job}

-- what is said of the pages that were taken
abbrev pub PagesPredicate : Type 1
PagesPredicate = List (Given (Unit {0})) → Type 0

-- what was held of some pages is held still
abbrev pub StillHolds : PagesPredicate → PagesPredicate → Type 0
StillHolds was is = (pages : List (Given (Unit {0}))) → was pages → is pages

-- the page is held behind those before it, unless there is no memory; or the ending is answered
abbrev pub AnswerConsumed : PagesPredicate → PagesPredicate → Said (Unit {0}) → Option Ending
    → Type 0
AnswerConsumed was is (Page given) None =
    (pages : List (Given (Unit {0}))) → was pages → is (pages ++ given ∷ [])
AnswerConsumed was is (Page given) (Some e) = (e ≡ ending.NoMemory) × StillHolds was is
AnswerConsumed was is (Stop end) result = (result ≡ Some (job_ending end)) × StillHolds was is

-- pages that, with this ending, answer the entries are held; none of them was zeroed where damaged
-- pages are not given as zeros
pub record PagesConsumed (holds : PagesPredicate) (rules : PageRules) (told : Option Told)
    (may : Entry (Unit {0}) → Type 0) (entries : List (Entry (Unit {0})))
    (end : Option SaidEnding) : Type 0 where
  pub pages : List (Given (Unit {0}))
  pub held : holds pages
  pub none_zeroed : rules.damaged ≢ damaged_pages.Zero → All (λ g. g.mark ≢ Zeroed) pages
  pub answers : IsAnswer (reading_of rules told) may entries
      (record { pages = pages; endings = endings_of end })

-- a job has the text, the warnings and the sums of the pages, each of which has 8192 bytes
pub record JobHasOutput (format : PageFormat) (j : Job) (pages : List (Given (Unit {0}))) : Type 0
  where
    pub are_pages : All (λ g. IsPage g.page) pages
    pub text_is : j.text.items ≡ listing format pages
    pub warnings_are : j.warnings.items ≡ warnings_of pages
    pub sums_are : j.tally ≡ sums_of format pages

-- jobs have the pages, one job after the other: each as many as it asks for blocks, and the last all
-- that are left
abbrev pub JobsHaveOutput : PageFormat → List Job → PagesPredicate
JobsHaveOutput format [] pages = pages ≡ []
JobsHaveOutput format (j ∷ []) pages = JobHasOutput format j pages
JobsHaveOutput format (j ∷ k ∷ js) pages = JobHasOutput format j (take j.count pages)
    × JobsHaveOutput format (k ∷ js) (drop j.count pages)

-- they are so many
abbrev pub HaveTaken : PageFormat → ℕ → List Job → PagesPredicate
HaveTaken format taken js pages = (taken ≡ length pages) × JobsHaveOutput format js pages

-- a map has the pages, and these are their warnings
pub record MapHasPages (m : Map) (warnings : List ℕ) (pages : List (Given (Unit {0}))) : Type 0
  where
    pub added : m.added ≡ map (λ g. g.page) pages
    pub warnings_are : warnings ≡ warnings_of pages
