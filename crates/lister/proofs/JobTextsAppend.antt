-- Jobs whose texts are written one after the other.
use Rattle.std.proofs.Common.{◌≡◌, ◌≢◌, ℕ, ◌+◌, ◌<◌, ◌≤◌, List, [], ◌∷◌, ◌++◌, take, drop, length}
use Rattle.std.proofs.Common.{get_or, refl, sym, ap, ◌∙◌, subst, arith, length-append}
use Rattle.std.specs.Prelude.{Option, ⊤, cond}
use Rattle.std.proofs.lemmas.List.{take_more, take_all, take-append-drop, map-append}
use Rattle.std.proofs.lemmas.List.Concat.{flat_map-cons}
use Rattle.std.proofs.lemmas.List.Sums.{sum_by-cons, get_or-le-sum_by}
use Rattle.page_check.specs.Told.{Told}
use Rattle.scan_settings.specs.ListOptions.{ListOptions}
use Rattle.scan_jobs.specs.Jobs.{JobIsListed, AllJobsAnswered, entries_of_job, unread_job_count}
use Rattle.scan_jobs.specs.Jobs.{is_unread, count_unskipped}
use Rattle.scan_jobs.specs.BlockFilter.{BlockFilter}
use Rattle.scan_jobs.specs.declared.job.Job.{Job}
use Rattle.heap_scan.specs.Sums.{sums_joined}
use Rattle.heap_scan.specs.declared.sums.PageSums.{PageSums}
use Rattle.run_report.specs.Output.{format_of_options}
use Rattle.run_report.specs.Sums.{IsSummedOutput, saturated_sums}
use Rattle.lister.specs.ListerState.{unskipped_job_requests, JobTextWritten}
use Rattle.lister.specs.ListerState.{unskipped_job_parts, AllJobTextsWritten}
use Rattle.run_report.specs.declared.report.Outcome.{Outcome}
use Rattle.run_report.specs.declared.report.Outcome.TheVariants.{Done}
use Rattle.lister.proofs.JobSumsAdd.{grew_by, summed_append, summed_more, summed_none}
use Rattle.lister.proofs.JobSumsAdd.{summed_same}

pub among_all : (jobs : List Job) (i n : ℕ) (d job : Job) → i < length jobs → job ≡ get_or jobs i d
    → n ≤ unread_job_count (job ∷ []) → n ≤ unread_job_count jobs
among_all jobs i n d job inside is few =
    let f : Job → ℕ = λ j. cond (is_unread j.ending) 1 0 in
    let P : Job → Type 0 = λ j. n ≤ unread_job_count (j ∷ []) in
    let here = subst P is few in
    omega (
      arith,
      sum_by-cons f (get_or jobs i d) [],
      get_or-le-sum_by f jobs i d inside,
    )

-- the blocks of some jobs are as many as the jobs have that are not left out
pub requests_length : (skips : Option BlockFilter) (jobs : List Job)
    → length (unskipped_job_requests skips jobs) ≡ count_unskipped skips jobs
requests_length skips [] = refl
requests_length skips (job ∷ jobs) =
    omega (
      arith,
      ap length (flat_map-cons (entries_of_job skips) job jobs),
      length-append (entries_of_job skips job) (unskipped_job_requests skips jobs),
      requests_length skips jobs,
      sum_by-cons (λ (j : Job). length (entries_of_job skips j)) job jobs,
    )

-- the texts of the first k jobs were written, and their sums added up
abbrev pub FirstListed : List Job → ℕ → Option (List ℕ) → Option (List ℕ) → PageSums → PageSums
    → List ℕ → Type 0
FirstListed jobs k b a s t w =
    (skips : Option BlockFilter) (m : ListOptions) (told : Option Told) (asked : List Job)
    → AllJobsAnswered skips m told asked jobs
    → IsSummedOutput (format_of_options m) told (unskipped_job_parts skips (take k asked)) b a Done
    s t w

module _ (jobs : List Job) (k : ℕ) (job : Job) (b between a : Option (List ℕ)) (s t u : PageSums)
    (o : Outcome) (v w : List ℕ) (inside : k < length jobs) (is : job ≡ get_or jobs k job)
    (added : u ≡ saturated_sums (sums_joined t job.tally)) (before : FirstListed jobs k b between s t v)
    (here : JobTextWritten job between a o w) where
  -- and then that of the next, up to its end or not
  next_listed : (skips : Option BlockFilter) (m : ListOptions) (told : Option Told)
      (asked : List Job) → AllJobsAnswered skips m told asked jobs
      → IsSummedOutput (format_of_options m) told (unskipped_job_parts skips (take (k + 1) asked))
      b a o s u (v ++ w)
  next_listed skips m told asked all =
      let below : k < length asked = omega (arith, all.as_many) in
      let this = get_or asked k job in
      let P : Job → Type 0 = λ j. JobIsListed skips m told (λ _. ⊤) this j in
      let one = here skips m told this (subst P (sym is) (all.each k job below)) in
      let more : unskipped_job_parts skips (take (k + 1) asked)
      ≡ unskipped_job_parts skips (take k asked) ++ entries_of_job skips this ∷ [] =
      ap (unskipped_job_parts skips) (take_more asked k job below)
      ∙ map-append (entries_of_job skips) (take k asked) (this ∷ []) in
      summed_same (format_of_options m) told _ _ b a o s u (v ++ w) (sym more)
      (summed_append (format_of_options m) told (unskipped_job_parts skips (take k asked))
      (entries_of_job skips this ∷ []) b between a o s t u v w (before skips m told asked all)
      (record { lists = one.0; sums_grew = rw one.1 (grew_by t u job.tally added) }))

  pub next_done : o ≡ Done → FirstListed jobs (k + 1) b a s u (v ++ w)
  next_done done = λ skips m told asked all.
      (let P : Outcome → Type 0 = λ x. IsSummedOutput (format_of_options m) told
      (unskipped_job_parts skips (take (k + 1) asked)) b a x s u (v ++ w) in
      subst P done (next_listed skips m told asked all))

  pub next_stopped : o ≢ Done → AllJobTextsWritten jobs b a o s u (v ++ w)
  next_stopped stops = λ skips m told asked all.
      (let front = unskipped_job_parts skips (take (k + 1) asked) in
      let back = unskipped_job_parts skips (drop (k + 1) asked) in
      let parts : unskipped_job_parts skips asked ≡ front ++ back =
      ap (unskipped_job_parts skips) (sym (take-append-drop (k + 1) asked))
      ∙ map-append (entries_of_job skips) (take (k + 1) asked) (drop (k + 1) asked) in
      summed_same (format_of_options m) told _ _ b a o s u (v ++ w) (sym parts)
      (summed_more (format_of_options m) told front back b a o s u (v ++ w) stops
      (next_listed skips m told asked all)))

pub all_listed : (jobs : List Job) (k : ℕ) (b a : Option (List ℕ)) (s t : PageSums) (w : List ℕ)
    → length jobs ≤ k → FirstListed jobs k b a s t w → AllJobTextsWritten jobs b a Done s t w
all_listed jobs k b a s t w all listed = λ skips m told asked answered.
    summed_same (format_of_options m) told _ _ b a Done s t w
    (ap (unskipped_job_parts skips) (take_all k asked (omega (arith, answered.as_many))))
    (listed skips m told asked answered)

pub none_listed : (jobs : List Job) (b : Option (List ℕ)) (s : PageSums)
    → FirstListed jobs 0 b b s s []
none_listed jobs b s = λ skips m told asked all. summed_none (format_of_options m) told b s
