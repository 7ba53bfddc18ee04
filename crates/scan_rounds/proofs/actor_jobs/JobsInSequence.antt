-- Jobs that a backend does one after the other.
use Rattle.std.proofs.Common.{◌≡◌, ℕ, ◌+◌, ◌*◌, ◌≤◌, List, [], ◌∷◌, length, cond}
use Rattle.std.proofs.Common.{◌∙◌, subst, arith, ◌++◌}
use Rattle.std.proofs.Common.{length-append}
use Rattle.std.specs.Prelude.{Option, ⊤}
use Rattle.std.specs.List.{All, AllZip}
use Rattle.std.proofs.lemmas.List.Elements.{All-tail}
use Rattle.std.proofs.lemmas.List.Sums.{sum_by-append, sum_by-cons}
use Rattle.page_check.specs.declared.world.World.{Ghosts as WorldGhosts}
use Rattle.page_check.specs.SynchronousAnswer.{Entry, reading_of}
use Rattle.page_check.specs.Told.{Told}
use Rattle.aio_handle.specs.ContractViews.{TableView}
use Rattle.method_worker.specs.QueueViews.{QueueView}
use Rattle.aio_disk.specs.declared.disk.Disk.{Ghosts as DiskGhosts}
use Rattle.scan_rounds.specs.DiskActors.{BackendListed, BackendMayList, IsBackend}
use Rattle.scan_jobs.specs.Jobs.{IsNewJob, JobIsListed, entries_of_job, is_unread}
use Rattle.scan_jobs.specs.Jobs.{job_block_count}
use Rattle.scan_settings.specs.ListOptions.{ListOptions}
use Rattle.scan_jobs.specs.BlockFilter.{BlockFilter}
use Rattle.scan_rounds.specs.declared.backend.Backend.{Backend}
use Rattle.scan_jobs.specs.declared.job.Job.{Job}
use Rattle.scan_rounds.proofs.ActorsAdvance.{backend_stays, goes_then}
use Rattle.scan_rounds.proofs.WiderAnswers.{answer_wider}
use Rattle.scan_rounds.proofs.LeastRoom.{fewer, left_after}
use Rattle.scan_rounds.proofs.ListPairs.{all_back, zip-append}

-- fresh jobs are no more than their blocks
pub few_jobs : (relations : ℕ) (js : List Job) → All (IsNewJob relations) js
    → length js ≤ job_block_count js
few_jobs relations [] fresh = omega arith
few_jobs relations (j ∷ js) fresh =
    let first = fresh 0 j (omega arith) in
    let rest = few_jobs relations js (All-tail (IsNewJob relations) j js fresh) in
    let sum = sum_by-cons (λ (k : Job). k.count) j js in
    omega (arith, first.few)

-- whatever may be unread
anyway : {block_filter : Option BlockFilter} {how : ListOptions} {told : Option Told}
    {may : Entry (Unit {0}) → Type 0} (j k : Job) → JobIsListed block_filter how told may j k
    → JobIsListed block_filter how told (λ _. ⊤) j k
anyway {block_filter} {how} {told} {may} j k is = record {
  same = is.same;
  answer = record {
    pages = is.answer.pages;
    text_is = is.answer.text_is;
    warnings_are = is.answer.warnings_are;
    sums_are = is.answer.sums_are;
    answers = answer_wider (reading_of how.rules told) may (λ _. ⊤) (entries_of_job block_filter j) _
        (λ e may. tt) is.answer.answers;
  };
  no_warnings = is.no_warnings;
}

all_anyway : (block_filter : Option BlockFilter) (how : ListOptions) (told : Option Told)
    (may : Entry (Unit {0}) → Type 0) (js ks : List Job)
    → AllZip (JobIsListed block_filter how told may) js ks
    → AllZip (JobIsListed block_filter how told (λ _. ⊤)) js ks
all_anyway f how told may [] [] is = tt
all_anyway f how told may [] (k ∷ ks) is = absurd is
all_anyway f how told may (j ∷ js) [] is = absurd is
all_anyway f how told may (j ∷ js) (k ∷ ks) is =
    (anyway j k is.0, all_anyway f how told may js ks is.1)

module _ {W D : Type 0} (m : DiskGhosts D) (world : WorldGhosts W) (t : TableView)
    (q : QueueView) where
  -- no job
  pub none_done : {may : Entry (Unit {0}) → Type 0} {block_filter : Option BlockFilter}
      (b : Backend W D) (js : List Job) → length js ≡ 0 → IsBackend m world t q b
      → BackendListed m world t q may block_filter b b js js
  none_done b (j ∷ js) none is = absurd (omega arith)
  none_done b [] none is = record {
    backend = backend_stays m world t q 0 b is;
    results_bound = omega arith;
    unread = omega arith;
    listed = tt;
  }

  module _ {may : Entry (Unit {0}) → Type 0} {block_filter : Option BlockFilter}
      (b c : Backend W D) (front ls : List Job)
      (did : BackendListed m world t q may block_filter b c front ls) where
    -- the backend may list the others then
    pub may_later : (back : List Job) → BackendMayList m world t q b (front ++ back)
        → BackendMayList m world t q c back
    may_later back all = record {
      is = did.backend.is;
      room = (let many = length-append front back in
          left_after (64 * length front) (64 * length back) b.disk_actor.actor c.disk_actor.actor
          did.backend.advanced.same all.is.backend
          (fewer (64 * length front + 64 * length back) (64 * length (front ++ back))
          b.disk_actor.actor (omega arith) all.room) did.backend.lives_bound);
      fresh = all_back (IsNewJob world.relations) front back all.fresh;
    }

    -- some jobs, and then the others
    pub some_then : (d : Backend W D) (back ks : List Job)
        → BackendListed m world t q (λ _. ⊤) block_filter c d back ks
        → BackendListed m world t q (λ _. ⊤) block_filter b d (front ++ back) (ls ++ ks)
    some_then d back ks on =
        let went = did.backend in
        let same = went.options_same in
        record {
          backend = record {
            is = on.backend.is;
            advanced = goes_then m world t _ _ _ went.advanced on.backend.advanced;
            lives_bound = λ h. (let x = went.lives_bound h in let y = on.backend.lives_bound h in
                let many = length-append front back in omega arith);
            options_same = on.backend.options_same ∙ same;
          };
          results_bound = (let w : Job → ℕ = λ k. length (entries_of_job block_filter k) in
              omega (arith, on.results_bound, did.results_bound, sum_by-append w front back));
          unread = (let w : Job → ℕ = λ k. cond (is_unread k.ending) 1 0 in
              omega (arith, on.unread, did.unread, sum_by-append w ls ks));
          listed = zip-append _ front back ls ks
              (all_anyway block_filter _ world.told _ front ls did.listed)
              (subst (λ (n : ListOptions). AllZip (JobIsListed block_filter n world.told (λ _. ⊤))
              back ks) same on.listed);
        }
