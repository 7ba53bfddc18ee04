-- Jobs that ended for want of memory, without a page.
use Rattle.std.proofs.Common.{◌≡◌, ℕ, zero, suc, List, [], ◌∷◌, ◌++◌, length, take, refl, ◌∙◌, sym}
use Rattle.std.proofs.Common.{subst, arith, append-nil}
use Rattle.std.specs.Prelude.{Option, slice_index_or, slice_set, ⊤}
use Rattle.std.specs.List.{All}
use Rattle.page_check.specs.declared.world.World.{Ghosts as WorldGhosts}
use Rattle.page_check.specs.Told.{Told}
use Rattle.scan_settings.specs.PageFormats.{page_format}
use Rattle.scan_jobs.specs.BlockFilter.{BlockFilter}
use Rattle.scan_jobs.specs.Jobs.{AllJobsAnswered, IsNewJob}
use Rattle.scan_jobs.specs.Jobs.{unread_job_count, ended_job}
use Rattle.scan_settings.specs.ListOptions.{ListOptions}
use Rattle.scan_jobs.specs.declared.job.Ending.TheVariants as ending
use Rattle.scan_jobs.specs.declared.job.Job.{Job}
use Rattle.scan_jobs.specs.declared.job_source.JobSource.{Ghosts as JobSourceGhosts}
use Rattle.scan_jobs.proofs.JobsListed.{new_jobs_have_none, none_listed}

-- the same job, for which there is no memory
abbrev pub refused : Job → Job
refused j = ended_job ending.NoMemory j

module _ (block_filter : Option BlockFilter) (how : ListOptions) (told : Option Told)
    (relations : ℕ) where
  -- one job, which is refused
  pub refused_jobs : (js : List Job) (d : Job) → length js ≡ 1 → All (IsNewJob relations) js
      → AllJobsAnswered block_filter how told js (slice_set js 0 (refused (slice_index_or js 0 d)))
  refused_jobs (j ∷ []) d one fresh = record {
    as_many = refl;
    each = elim [
      | zero ↦ λ e lt. (none_listed block_filter how told (λ _. ⊤) (j ∷ []) (j ∷ []) refl
          (new_jobs_have_none (page_format how.page_text) relations (j ∷ []) fresh)).0
      | suc i ↦ λ e lt. absurd (omega arith)
    ];
  }
  refused_jobs [] d one fresh = absurd (omega arith)
  refused_jobs (j ∷ k ∷ js) d one fresh = absurd (omega arith)

pub one_taken : (n : ℕ) (js : List Job) → n ≡ 1 → length js ≡ 1 → take n js ≡ js
one_taken n (j ∷ []) is one = rw is refl
one_taken n [] is one = absurd (omega arith)
one_taken n (j ∷ k ∷ js) is one = absurd (omega arith)

pub none_unread_refused : (js : List Job) (d : Job) → length js ≡ 1
    → unread_job_count (slice_set js 0 (refused (slice_index_or js 0 d))) ≡ 0
none_unread_refused (j ∷ []) d one = refl
none_unread_refused [] d one = absurd (omega arith)
none_unread_refused (j ∷ k ∷ js) d one = absurd (omega arith)

module _ {W A : Type 0} (world : WorldGhosts W) (s : JobSourceGhosts A W)
    (giving_none_follows : (a b : A) → s.gives_jobs a [] b → s.follows a b)
    (follows_on : (a b c : A) → s.follows a b → s.follows b c → s.follows a c) where
  -- what the job source has taken back then, it follows
  pub refused_follows : (start was old now : A) (n : ℕ) (js : List Job) (d : Job) → n ≡ 1
      → length js ≡ 1 → All (IsNewJob world.relations) (take n js)
      → s.gives_jobs was (take n js) old → ((a : A) (asked later : List Job)
      → s.gives_jobs a (asked ++ later) old
      → AllJobsAnswered (s.block_filter old) (s.options old) world.told asked
      (slice_set js 0 (refused (slice_index_or js 0 d)))
      → (next : A) × s.follows a next × s.gives_jobs next later now) → s.follows start was
      → s.follows start now
  refused_follows start was old now n js d is one fresh gives finished before =
      let all = one_taken n js is one in
      let given : s.gives_jobs was (js ++ []) old =
      subst (λ (ks : List Job). s.gives_jobs was ks old) (all ∙ sym (append-nil js)) gives in
      let new = subst (All (IsNewJob world.relations)) all fresh in
      let (next, followed, left) = finished was js [] given
      (refused_jobs (s.block_filter old) (s.options old) world.told world.relations js d one new) in
      follows_on start next now (follows_on start was next before followed)
      (giving_none_follows next now left)
