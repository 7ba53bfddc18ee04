-- What has become of jobs whose pages were taken.
use mathlib.Core.Logic.{dite}
use native.Mathlib.Decide.{dec_le}
use Rattle.std.proofs.Common.{◌≡◌, ◌≢◌, ℕ, zero, suc, ◌-◌, ◌≤◌, true, false, List, [], ◌∷◌}
use Rattle.std.proofs.Common.{◌++◌, length, map, take, drop, refl, sym, ap, ◌∙◌, subst, arith, cond}
use Rattle.std.proofs.Common.{append-nil, length-drop, nat_le}
use Rattle.std.specs.Prelude.{Option}
use Rattle.std.specs.List.{All, AllZip}
use Rattle.std.proofs.lemmas.List.{take_all, drop_all}
use Rattle.std.proofs.lemmas.Bool.Decides.{nat_tests}
use Rattle.std.proofs.lemmas.List.Elements.{All-head, All-tail, All-take, All-drop, All-nil}
use Rattle.std.proofs.lemmas.List.Sums.{sum_by-cons}
use Rattle.page_check.specs.declared.rules.DamagedPages.TheVariants as damaged_pages
use Rattle.page_check.specs.declared.rules.PageMark.TheVariants.{Zeroed}
use Rattle.page_check.specs.Told.{Told}
use Rattle.page_check.specs.SynchronousAnswer.{reading_of}
use Rattle.page_check.specs.IsAnswer.{IsAnswer}
use Rattle.page_check.proofs.AnswersInOrder.{answered_none}
use Rattle.heap_scan.specs.Job.{endings_of}
use Rattle.heap_scan.specs.Listing.{PageFormat}
use Rattle.heap_scan.specs.Warnings.{warnings_of}
use Rattle.scan_settings.specs.PageFormats.{page_format}
use Rattle.scan_jobs.specs.BlockFilter.{BlockFilter}
use Rattle.scan_jobs.specs.ConsumedPages.{JobHasOutput, JobsHaveOutput}
use Rattle.scan_jobs.specs.Jobs.{AreWholeButLast, JobIsListed, JobOutline, answered_ending}
use Rattle.scan_jobs.specs.Jobs.{ended_job, ended_jobs, entries_of_job, entries_of_jobs, is_unread}
use Rattle.scan_jobs.specs.Jobs.{IsNewJob, job_outline, unread_job_count}
use Rattle.scan_settings.specs.ListOptions.{ListOptions}
use Rattle.scan_jobs.specs.declared.job.Ending.{Ending}
use Rattle.scan_jobs.specs.declared.job.Ending.TheVariants as ending
use Rattle.scan_jobs.specs.declared.job.Job.{Job}
use Rattle.scan_jobs.proofs.AnswersSplit.{answered_back, answered_front, answered_within}
use Rattle.scan_jobs.proofs.OutputOfPages.{no_text, unwarned}
use Rattle.scan_jobs.proofs.UnitEntries.{E, G}

-- pages that were not zeroed have no warnings
pub none_warned : (pages : List G) → All (λ g. g.mark ≢ Zeroed) pages → warnings_of pages ≡ []
unfolding warnings_of
none_warned [] all = refl
none_warned (g ∷ pages) all =
    ap (λ (l : List ℕ). l ++ warnings_of pages) (unwarned g (all 0 g (omega arith)))
    ∙ none_warned pages (λ k d lt. all (suc k) d (omega arith))

take_none : {X : Type 0} (n : ℕ) → take n (let none : List X = [] in none) ≡ []
take_none zero = refl
take_none (suc n) = refl

drop_none : {X : Type 0} (n : ℕ) → drop n (let none : List X = [] in none) ≡ []
drop_none zero = refl
drop_none (suc n) = refl

abbrev pub NotEnded : Job → Type 0
NotEnded j = j.ending ≡ ending.Pages

ended_has : (format : PageFormat) (l : Job) (end : Ending) (pages : List G)
    → JobHasOutput format l pages → JobHasOutput format (ended_job end l) pages
ended_has format l end pages has = record {
  are_pages = has.are_pages;
  text_is = has.text_is;
  warnings_are = has.warnings_are;
  sums_are = has.sums_are;
}

-- jobs that are ended behind one that is not whole
none_unread : (ls : List Job) → unread_job_count (map (ended_job ending.NoMemory) ls) ≡ 0
none_unread [] = refl
none_unread (l ∷ ls) =
    (let later = none_unread ls in
    let sum = sum_by-cons (λ (k : Job). cond (is_unread k.ending) 1 0) (ended_job ending.NoMemory l)
    (map (ended_job ending.NoMemory) ls) in omega arith)

-- one of them at most ended in Unread
pub one_unread_at_most : (ls : List Job) (taken : ℕ) (end : Ending) → All NotEnded ls
    → unread_job_count (ended_jobs ls taken end) ≤ cond (is_unread end) 1 0
one_unread_at_most [] taken end fresh = omega arith
one_unread_at_most (l ∷ []) taken end fresh =
    (let sum = sum_by-cons (λ (k : Job). cond (is_unread k.ending) 1 0) (ended_job end l) [] in
    omega arith)
one_unread_at_most (l ∷ m ∷ ls) taken end fresh =
    let w : Job → ℕ = λ k. cond (is_unread k.ending) 1 0 in
    dite (dec_le l.count taken)
    (λ whole.
    (let here : nat_le l.count taken ≡ true = grind (arith, nat_tests) in
    let later = one_unread_at_most (m ∷ ls) (taken - l.count) end (All-tail NotEnded l (m ∷ ls) fresh)
    in
    let none : w l ≡ 0 = ap (λ (e : Ending). cond (is_unread e) 1 0) (fresh 0 l (omega arith)) in
    let sum = sum_by-cons w l (ended_jobs (m ∷ ls) (taken - l.count) end) in
    rw here (omega arith)))
    (λ part.
    (let here : nat_le l.count taken ≡ false = grind (arith, nat_tests) in
    let later = none_unread (m ∷ ls) in
    let sum = sum_by-cons w (ended_job end l) (map (ended_job ending.NoMemory) (m ∷ ls)) in
    rw here (omega arith)))

-- what the first job has, and the later ones, where none has pages
first_and_later : {format : PageFormat} (l : Job) (ls : List Job) → JobsHaveOutput format (l ∷ ls) []
    → JobHasOutput format l [] × JobsHaveOutput format ls []
first_and_later l [] has = (has, refl)
first_and_later {format} l (m ∷ ls) has = (
  subst (JobHasOutput format l) (take_none l.count) has.0,
  subst (JobsHaveOutput format (m ∷ ls)) (drop_none l.count) has.1,
)

module _ (block_filter : Option BlockFilter) (how : ListOptions) (told : Option Told)
    (may : E → Type 0) where
  -- a job that has these pages of its blocks, and ended so
  listed_one : (j l : Job) (end : Ending) (pages : List G) → job_outline l ≡ job_outline (ended_job end j)
      → JobHasOutput (page_format how.page_text) l pages
      → (how.rules.damaged ≢ damaged_pages.Zero → All (λ g. g.mark ≢ Zeroed) pages)
      → IsAnswer (reading_of how.rules told) may (entries_of_job block_filter j)
      (record { pages = pages; endings = endings_of (answered_ending end) })
      → JobIsListed block_filter how told may j l
  listed_one j l end pages same has quiet is = record {
    same = (
      ap (λ (o : JobOutline). o.relation) same,
      ap (λ (o : JobOutline). o.first) same,
      ap (λ (o : JobOutline). o.count) same,
    );
    answer = record {
      pages = pages;
      text_is = has.text_is;
      warnings_are = has.warnings_are;
      sums_are = has.sums_are;
      answers = subst (λ (e : Ending). IsAnswer (reading_of how.rules told) may
          (entries_of_job block_filter j)
          (record { pages = pages; endings = endings_of (answered_ending e) }))
          (sym (ap (λ (o : JobOutline). o.ending) same)) is;
    };
    no_warnings = λ off. has.warnings_are ∙ none_warned pages (quiet off);
  }

  -- jobs that had no pages
  pub none_listed : (js ls : List Job) → map job_outline ls ≡ map job_outline js
      → JobsHaveOutput (page_format how.page_text) ls []
      → AllZip (JobIsListed block_filter how told may) js (map (ended_job ending.NoMemory) ls)
  none_listed [] [] same has = tt
  none_listed [] (l ∷ ls) same has = absurd (cc)
  none_listed (j ∷ js) [] same has = absurd (cc)
  none_listed (j ∷ js) (l ∷ ls) same has =
      let head : job_outline l ≡ job_outline j = cc in
      let tail : map job_outline ls ≡ map job_outline js = cc in
      let both = first_and_later l ls has in (
        listed_one j (ended_job ending.NoMemory l) ending.NoMemory []
            (ap (λ (o : JobOutline). record o { ending = ending.NoMemory }) head)
            (ended_has (page_format how.page_text) l ending.NoMemory [] both.0)
            (λ off. All-nil (λ g. g.mark ≢ Zeroed))
            (answered_none (reading_of how.rules told) may (entries_of_job block_filter j)),
        none_listed js ls tail both.1,
      )

  -- jobs that have taken these pages, which answer their blocks with this ending
  pub all_listed : (js ls : List Job) (pages : List G) (end : Ending)
      → map job_outline ls ≡ map job_outline js → All NotEnded js
      → AreWholeButLast block_filter js → JobsHaveOutput (page_format how.page_text) ls pages
      → (how.rules.damaged ≢ damaged_pages.Zero → All (λ g. g.mark ≢ Zeroed) pages)
      → IsAnswer (reading_of how.rules told) may (entries_of_jobs block_filter js)
      (record { pages = pages; endings = endings_of (answered_ending end) })
      → AllZip (JobIsListed block_filter how told may) js (ended_jobs ls (length pages) end)
  all_listed [] [] pages end same fresh whole has quiet is = tt
  all_listed [] (l ∷ ls) pages end same fresh whole has quiet is = absurd (cc)
  all_listed (j ∷ js) [] pages end same fresh whole has quiet is = absurd (cc)
  all_listed (j ∷ []) (l ∷ m ∷ ls) pages end same fresh whole has quiet is = absurd (cc)
  all_listed (j ∷ k ∷ js) (l ∷ []) pages end same fresh whole has quiet is = absurd (cc)
  all_listed (j ∷ []) (l ∷ []) pages end same fresh whole has quiet is =
      let head : job_outline l ≡ job_outline j = cc in (
        listed_one j (ended_job end l) end pages
            (ap (λ (o : JobOutline). record o { ending = end }) head)
            (ended_has (page_format how.page_text) l end pages has) quiet
            (subst (λ (es : List E). IsAnswer (reading_of how.rules told) may es
            (record { pages = pages; endings = endings_of (answered_ending end) }))
            (append-nil (entries_of_job block_filter j)) is),
        tt,
      )
  all_listed (j ∷ k ∷ js) (l ∷ m ∷ ls) pages end same fresh whole has quiet is =
      let found = reading_of how.rules told in
      let xs = entries_of_job block_filter j in
      let ys = entries_of_jobs block_filter (k ∷ js) in
      let endings = endings_of (answered_ending end) in
      let head : job_outline l ≡ job_outline j = cc in
      let tail : map job_outline (m ∷ ls) ≡ map job_outline (k ∷ js) = cc in
      let many : length xs ≡ l.count = whole.0 ∙ sym (ap (λ (o : JobOutline). o.count) head) in
      let later = All-tail NotEnded j (k ∷ js) fresh in
      dite (dec_le l.count (length pages))
      (λ all.
      (let here : nat_le l.count (length pages) ≡ true = grind (arith, nat_tests) in
      rw (here, sym (length-drop l.count pages)) (
        listed_one j l ending.Pages (take l.count pages)
            (head ∙ ap (λ (e : Ending). record (job_outline j) { ending = e })
            (All-head NotEnded j (k ∷ js) fresh))
            has.0 (λ off. All-take (λ g. g.mark ≢ Zeroed) l.count pages (quiet off))
            (subst (λ (n : ℕ). IsAnswer found may xs
            (record { pages = take n pages; endings = endings_of (answered_ending ending.Pages) }))
            many (answered_front found may xs ys pages endings (omega arith) is)),
        all_listed (k ∷ js) (m ∷ ls) (drop l.count pages) end tail later whole.1 has.1
            (λ off. All-drop (λ g. g.mark ≢ Zeroed) l.count pages (quiet off))
            (subst (λ (n : ℕ). IsAnswer found may ys
            (record { pages = drop n pages; endings = endings })) many
            (answered_back found may xs ys pages endings (omega arith) is)),
      )))
      (λ few.
      (let here : nat_le l.count (length pages) ≡ false = grind (arith, nat_tests) in
      let taken : take l.count pages ≡ pages = take_all l.count pages (omega arith) in
      let dropped : drop l.count pages ≡ [] = drop_all l.count pages (omega arith) in
      rw here (
        listed_one j (ended_job end l) end pages
            (ap (λ (o : JobOutline). record o { ending = end }) head)
            (ended_has (page_format how.page_text) l end pages
            (subst (JobHasOutput (page_format how.page_text) l) taken has.0)) quiet
            (answered_within found may xs ys pages endings (omega arith) is),
        none_listed (k ∷ js) (m ∷ ls) tail
            (subst (JobsHaveOutput (page_format how.page_text) (m ∷ ls)) dropped has.1),
      )))

-- jobs that nobody has listed have no pages
pub new_jobs_have_none : (format : PageFormat) (relations : ℕ) (js : List Job)
    → All (IsNewJob relations) js → JobsHaveOutput format js []
new_jobs_have_none format relations [] fresh = refl
new_jobs_have_none format relations (j ∷ []) fresh =
    let here = All-head (IsNewJob relations) j [] fresh in
    no_text format j here.no_text here.no_warnings here.no_tally
new_jobs_have_none format relations (j ∷ k ∷ js) fresh =
    let here = All-head (IsNewJob relations) j (k ∷ js) fresh in
    let later = new_jobs_have_none format relations (k ∷ js)
    (All-tail (IsNewJob relations) j (k ∷ js) fresh) in (
      subst (JobHasOutput format j) (sym (take_none j.count))
          (no_text format j here.no_text here.no_warnings here.no_tally),
      subst (JobsHaveOutput format (k ∷ js)) (sym (drop_none j.count)) later,
    )
