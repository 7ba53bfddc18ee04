-- What a job has of the pages that it has taken.
use Rattle.std.proofs.Common.{◌≡◌, ◌≢◌, ℕ, ◌<◌, List, [], ◌∷◌, ◌++◌, length, get_or, refl, sym, ap}
use Rattle.std.proofs.Common.{◌∙◌, subst, arith, append-nil, length-append, All}
use Rattle.std.specs.Prelude.{Option, Some, None, Result, Ok, Err, OnOk, OnErr}
use Rattle.std.proofs.lemmas.List.Elements.{All-nil, All-push}
use Rattle.page_check.specs.PageBytes.{IsPage}
use Rattle.page_check.specs.declared.rules.PageMark.{PageMark}
use Rattle.page_check.specs.declared.rules.PageMark.TheVariants.{Valid, Zeroed, Damaged}
use Rattle.page_check.specs.IsAnswer.{Next as Said, Page, Stop, IfGiven, IfPage}
use Rattle.heap_scan.specs.Listing.{PageFormat, fault_count_for, listing, text_for}
use Rattle.heap_scan.specs.Warnings.{warning_by, warning_for, warnings_of}
use Rattle.heap_scan.proofs.Jobs.{listing-append, warnings-append}
use Rattle.heap_scan.proofs.SumsOverPages.{few_items_of_page, sums_fit, sums_of-none, sums_of-push}
use Rattle.heap_scan.specs.Sums.{FitSums, no_sums, sums_with_page}
use Rattle.scan_settings.specs.PageFormats.{page_format}
use Rattle.scan_settings.specs.declared.page_text.PageText.{PageText}
use Rattle.scan_settings.proofs.FaultCounts.{few_told}
use Rattle.heap_scan.specs.declared.sums.PageSums.{PageSums}
use Rattle.scan_jobs.specs.JobOutput.{JobOutput, AnswerAppended, CanBeCounted, job_output}
use Rattle.scan_jobs.specs.ConsumedPages.{JobHasOutput, AnswerConsumed, PagesPredicate}
use Rattle.scan_jobs.specs.declared.job.Ending.{Ending}
use Rattle.scan_jobs.specs.declared.job.Ending.TheVariants as ending
use Rattle.scan_jobs.specs.declared.job.Job.{Job}
use Rattle.scan_jobs.proofs.UnitEntries.{G}

one_listing : (format : PageFormat) (g : G) → text_for format g ≡ listing format (g ∷ [])
unfolding listing
one_listing format g = sym (append-nil (text_for format g))

no_listing : (format : PageFormat) → listing format (let none : List G = [] in none) ≡ []
unfolding listing
no_listing format = refl

pub one_warning : (g : G) → warning_for g ≡ warnings_of (g ∷ [])
unfolding warnings_of
one_warning g = sym (append-nil (warning_for g))

pub no_warnings : warnings_of (let none : List G = [] in none) ≡ []
unfolding warnings_of
no_warnings = refl

-- a page that was not zeroed has no warning
unwarned_by : (mark : PageMark) (relation block : ℕ) → mark ≢ Zeroed
    → warning_by mark relation block ≡ []
unwarned_by Valid relation block other = refl
unwarned_by Zeroed relation block other = absurd (other refl)
unwarned_by Damaged relation block other = refl

pub unwarned : (g : G) → g.mark ≢ Zeroed → warning_for g ≡ []
unwarned g other = unwarned_by g.mark g.entry.relation g.entry.block other

pub no_text : (format : PageFormat) (j : Job) → j.text.items ≡ [] → j.warnings.items ≡ []
    → j.tally ≡ no_sums → JobHasOutput format j []
no_text format j empty quiet uncounted = record {
  are_pages = All-nil (λ g. IsPage g.page);
  text_is = empty ∙ sym (no_listing format);
  warnings_are = quiet ∙ sym no_warnings;
  sums_are = uncounted ∙ sym (sums_of-none (Unit {0}) format);
}

abbrev pub output_of : Job → JobOutput
output_of j = job_output j.text.items j.warnings.items j.tally

same_text : (format : PageFormat) (j k : Job) → output_of k ≡ output_of j → (pages : List G)
    → JobHasOutput format j pages → JobHasOutput format k pages
same_text format j k same pages has = record {
  are_pages = has.are_pages;
  text_is = ap (λ (s : JobOutput). s.text) same ∙ has.text_is;
  warnings_are = ap (λ (s : JobOutput). s.warnings) same ∙ has.warnings_are;
  sums_are = ap (λ (s : JobOutput). s.sums) same ∙ has.sums_are;
}

-- what is shown of an answer is what the job takes
pub shows_taken : (format : PageFormat) (said : Said (Unit {0})) (j k : Job) (result : Option Ending)
    → IfPage said IsPage → AnswerAppended format said (output_of j) (output_of k) result
    → AnswerConsumed (JobHasOutput format j) (JobHasOutput format k) said result
shows_taken format (Page g) j k None page shows = λ pages has. record {
  are_pages = All-push (λ x. IsPage x.page) pages g has.are_pages page;
  text_is = shows.0
      ∙ ap (λ (l : List ℕ). l ++ text_for format g) has.text_is
      ∙ ap (λ (l : List ℕ). listing format pages ++ l) (one_listing format g)
      ∙ sym (listing-append format pages (g ∷ []));
  warnings_are = shows.1
      ∙ ap (λ (l : List ℕ). l ++ warning_for g) has.warnings_are
      ∙ ap (λ (l : List ℕ). warnings_of pages ++ l) (one_warning g)
      ∙ sym (warnings-append pages (g ∷ []));
  sums_are = shows.2
      ∙ ap (λ (s : PageSums). sums_with_page (fault_count_for format g) s g.page) has.sums_are
      ∙ sym (sums_of-push format pages g);
}
shows_taken format (Page g) j k (Some e) page shows = (shows.0, same_text format j k shows.1)
shows_taken format (Stop end) j k result page shows = (shows.0, same_text format j k shows.1)

-- where a page was answered, fewer than 4096 were taken
abbrev pub HasRoom : PagesPredicate → Said (Unit {0}) → Type 0
HasRoom holds said = IfGiven said (λ _. (pages : List G) × holds pages × (length pages < 4096))

-- up to 4096 pages, their line pointers and their faults can be counted
pub next_fits : (text : PageText) (j : Job) (said : Said (Unit {0}))
    → HasRoom (JobHasOutput (page_format text) j) said
    → CanBeCounted (page_format text) j.tally said
next_fits text j (Stop end) room = tt
next_fits text j (Page g) (pages, has, few) =
    λ is.
    let format = page_format text in
    let all : All (λ x. IsPage x.page) (pages ++ g ∷ []) =
    All-push (λ x. IsPage x.page) pages g has.are_pages is in
    subst (λ (s : PageSums). FitSums s)
    (sums_of-push format pages g
    ∙ ap (λ (s : PageSums). sums_with_page (fault_count_for format g) s g.page) (sym has.sums_are))
    (sums_fit format (pages ++ g ∷ [])
    (λ k d below. few_items_of_page (get_or (pages ++ g ∷ []) k d).page (all k d below))
    (λ k d below. (let x = get_or (pages ++ g ∷ []) k d in
    few_told text x.mark x.entry.relation x.entry.block x.page))
    (omega (arith, few, length-append pages (g ∷ []))))

-- a page that was read was appended and counted, or there was no memory
pub page_shown : {T F : Type 0} (format : PageFormat) (r : Result T F) (g : G)
    (text text' warnings : List ℕ) (sums sums' : PageSums) (result : Option Ending)
    → g.mark ≢ Zeroed
    → OnOk r ((text' ≡ text ++ text_for format g)
    × (sums' ≡ sums_with_page (fault_count_for format g) sums g.page))
    → OnErr r ((text' ≡ text) × (sums' ≡ sums))
    → OnOk r (result ≡ None) → OnErr r (result ≡ Some ending.NoMemory)
    → AnswerAppended format (Page g) (job_output text warnings sums)
    (job_output text' warnings sums') result
page_shown format (Ok x) g text text' warnings sums sums' result read ok err none some =
    subst (λ (e : Option Ending). AnswerAppended format (Page g) (job_output text warnings sums)
    (job_output text' warnings sums') e) (sym none)
    (ok.0, sym (ap (λ (l : List ℕ). warnings ++ l) (unwarned g read) ∙ append-nil warnings), ok.1)
page_shown format (Err x) g text text' warnings sums sums' result read ok err none some =
    subst (λ (e : Option Ending). AnswerAppended format (Page g) (job_output text warnings sums)
    (job_output text' warnings sums') e) (sym some)
    (refl, rw (err.0, err.1) refl)
