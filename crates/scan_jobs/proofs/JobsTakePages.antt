-- Jobs that take pages, one job after the other.
use Rattle.std.proofs.Common.{◌≡◌, ℕ, ◌+◌, ◌-◌, ◌<◌, ◌≤◌, List, [], ◌∷◌, ◌++◌, length, ◌⊎◌, inl, inr}
use Rattle.std.proofs.Common.{sym, subst, ◌∙◌, arith, drop, length-append, length-drop}
use Rattle.std.specs.Prelude.{Option, Some, None}
use Rattle.std.proofs.lemmas.List.{drop-append-le, drop_all, take-append-le, take_all}
use Rattle.page_check.specs.PageBytes.{IsPage}
use Rattle.page_check.specs.IsAnswer.{Next as Said, Page, Stop, IfPage}
use Rattle.heap_scan.specs.Listing.{PageFormat}
use Rattle.scan_settings.specs.PageFormats.{page_format}
use Rattle.scan_settings.specs.declared.page_text.PageText.{PageText}
use Rattle.scan_jobs.specs.JobOutput.{AnswerAppended, CanBeCounted}
use Rattle.scan_jobs.specs.ConsumedPages.{AnswerConsumed, HaveTaken, JobHasOutput}
use Rattle.scan_jobs.specs.ConsumedPages.{JobsHaveOutput}
use Rattle.scan_jobs.specs.declared.job.Ending.{Ending}
use Rattle.scan_jobs.specs.declared.job.Job.{Job}
use Rattle.scan_jobs.proofs.OutputOfPages.{HasRoom, next_fits, output_of, shows_taken}
use Rattle.scan_jobs.proofs.UnitEntries.{G}

-- it is the first job's turn: no other is there, or it asks for more pages than were taken
abbrev pub IsFirstTurn : Job → List Job → ℕ → Type 0
IsFirstTurn j js taken = (length js ≡ 0) ⊎ (taken < j.count)

-- in its turn the first job has all the pages
first_has : (format : PageFormat) (j : Job) (js : List Job) (taken : ℕ) → IsFirstTurn j js taken
    → (pages : List G) → HaveTaken format taken (j ∷ js) pages → JobHasOutput format j pages
first_has format j [] taken turn pages have = have.1
first_has format j (k ∷ js) taken (inl none) pages have = absurd (omega arith)
first_has format j (k ∷ js) taken (inr less) pages have =
    subst (λ (l : List G). JobHasOutput format j l)
    (take_all j.count pages (omega (arith, have.0))) have.1.0

-- what it has behind its turn, with a page more or without, the jobs have, one after the other
first_more : (format : PageFormat) (j k : Job) (js : List Job) (taken : ℕ)
    → IsFirstTurn j js taken → k.count ≡ j.count → (pages after : List G)
    → HaveTaken format taken (j ∷ js) pages → length after ≤ length pages + 1
    → JobHasOutput format k after → JobsHaveOutput format (k ∷ js) after
first_more format j k [] taken turn same pages after have few has = has
first_more format j k (i ∷ js) taken (inl none) same pages after have few has =
    absurd (omega arith)
first_more format j k (i ∷ js) taken (inr less) same pages after have few has = (
  subst (λ (l : List G). JobHasOutput format k l)
      (sym (take_all k.count after (omega (arith, have.0)))) has,
  subst (λ (l : List G). JobsHaveOutput format (i ∷ js) l)
      (drop_all j.count pages (omega (arith, have.0))
      ∙ sym (drop_all k.count after (omega (arith, have.0))))
      have.1.1,
)

-- in its turn the first job can count the page
pub first_fits : (text : PageText) (j : Job) (js : List Job) (taken : ℕ) (said : Said (Unit {0}))
    → IsFirstTurn j js taken → HasRoom (HaveTaken (page_format text) taken (j ∷ js)) said
    → CanBeCounted (page_format text) j.tally said
first_fits text j js taken (Stop end) turn room = tt
first_fits text j js taken (Page g) turn (pages, have, few) =
    next_fits text j (Page g)
    (pages, first_has (page_format text) j js taken turn pages have, few)

-- what is shown in the first job, in its turn, the jobs take
pub first_takes : (format : PageFormat) (j k : Job) (js : List Job) (taken : ℕ)
    (said : Said (Unit {0})) (result : Option Ending) → IsFirstTurn j js taken
    → k.count ≡ j.count → IfPage said IsPage
    → AnswerAppended format said (output_of j) (output_of k) result
    → AnswerConsumed (HaveTaken format taken (j ∷ js)) (JobsHaveOutput format (k ∷ js)) said
    result
first_takes format j k js taken (Page g) None turn same page shows = λ pages have.
    first_more format j k js taken turn same pages (pages ++ g ∷ []) have
    (omega (arith, length-append pages (g ∷ [])))
    (shows_taken format (Page g) j k None page shows pages
    (first_has format j js taken turn pages have))
first_takes format j k js taken (Page g) (Some e) turn same page shows = (
  shows.0,
  λ pages have.
      first_more format j k js taken turn same pages pages have (omega arith)
      ((shows_taken format (Page g) j k (Some e) page shows).1 pages
      (first_has format j js taken turn pages have)),
)
first_takes format j k js taken (Stop end) result turn same page shows = (
  shows.0,
  λ pages have.
      first_more format j k js taken turn same pages pages have (omega arith)
      ((shows_taken format (Stop end) j k result page shows).1 pages
      (first_has format j js taken turn pages have)),
)

-- where the first job has all its pages, the jobs take what the later ones do
pub later_take : (format : PageFormat) (j : Job) (js ks : List Job) (taken : ℕ)
    (said : Said (Unit {0})) (result : Option Ending) → 1 ≤ length js → length ks ≡ length js
    → j.count ≤ taken
    → AnswerConsumed (HaveTaken format (taken - j.count) js) (JobsHaveOutput format ks) said result
    → AnswerConsumed (HaveTaken format taken (j ∷ js)) (JobsHaveOutput format (j ∷ ks)) said result
later_take format j [] ks taken said result some same whole takes = absurd (omega arith)
later_take format j (i ∷ js) [] taken said result some same whole takes = absurd (omega arith)
later_take format j (i ∷ js) (k ∷ ks) taken (Page g) None some same whole takes =
    λ pages have. (
      subst (JobHasOutput format j)
          (sym (take-append-le j.count pages (g ∷ []) (omega (arith, have.0)))) have.1.0,
      subst (JobsHaveOutput format (k ∷ ks))
          (sym (drop-append-le j.count pages (g ∷ []) (omega (arith, have.0))))
          (takes (drop j.count pages)
          (omega (arith, have.0, length-drop j.count pages), have.1.1)),
    )
later_take format j (i ∷ js) (k ∷ ks) taken (Page g) (Some e) some same whole takes = (
  takes.0,
  λ pages have. (
    have.1.0,
    takes.1 (drop j.count pages) (omega (arith, have.0, length-drop j.count pages), have.1.1),
  ),
)
later_take format j (i ∷ js) (k ∷ ks) taken (Stop end) result some same whole takes = (
  takes.0,
  λ pages have. (
    have.1.0,
    takes.1 (drop j.count pages) (omega (arith, have.0, length-drop j.count pages), have.1.1),
  ),
)
