-- Jobs of neighbouring blocks, which one stream reads.
use Rattle.std.proofs.Common.{◌≡◌, ℕ, suc, ◌+◌, ◌*◌, ◌≤◌, ◌^◌, List, [], ◌∷◌, ◌++◌, length, refl}
use Rattle.std.proofs.Common.{sym, ap, ◌∙◌, arith, append-nil, take, map}
use Rattle.std.specs.Prelude.{Option, None, slice_index_or}
use Rattle.std.proofs.lemmas.List.{length-take-le, map-append}
use Rattle.heap_scan.specs.Job.{job_entries, block_entry}
use Rattle.scan_jobs.specs.BlockFilter.{filter_of_skipping, unskipped_range}
use Rattle.scan_jobs.specs.StreamBlocks.{IsStreamOfJobs}
use Rattle.scan_jobs.specs.Jobs.{AreWholeButLast, IsNewJob, entries_of_job, entries_of_jobs}
use Rattle.scan_jobs.specs.declared.job.Job.{Job}
use Rattle.scan_jobs.specs.declared.map_filter.MapFilter.{MapFilter}
use Rattle.scan_jobs.specs.declared.source.Blocks.{Blocks}
use Rattle.scan_jobs.proofs.JoinedLists.{range_append}
use Rattle.scan_jobs.proofs.UnitEntries.{E}
use Rattle.scan_jobs.proofs.UnskippedCount.{range_count}
use Rattle.std.specs.List.{range_with_len}

-- the blocks of a job are those of two jobs side by side
job_entries-append : (relation first c d : ℕ) → job_entries relation first (c + d)
    ≡ job_entries relation first c ++ job_entries relation (first + c) d
job_entries-append relation first c d =
    ap (map (block_entry relation)) (range_append first c d)
    ∙ map-append (block_entry relation) (range_with_len first c) (range_with_len (first + c) d)

-- a job, and then those whose blocks stand behind its own
pub job_and_following : (relation next blocks many : ℕ) (j : Job) (js : List Job)
    → j.relation ≡ relation → j.first ≡ next
    → job_entries relation (next + j.count) blocks ≡ entries_of_jobs None (take many js)
    → job_entries relation next (blocks + j.count) ≡ entries_of_jobs None (take (many + 1) (j ∷ js))
job_and_following relation next blocks many j js here from behind =
    let more : blocks + j.count ≡ j.count + blocks = omega arith in
    let one : many + 1 ≡ suc many = omega arith in
    ap (job_entries relation next) more ∙ job_entries-append relation next j.count blocks
    ∙ ap (λ (es : List E). job_entries relation next j.count ++ es) behind
    ∙ ap (λ (es : List E). es ++ entries_of_jobs None (take many js))
    (ap (λ r. job_entries r next j.count) (sym here)
    ∙ ap (λ n. job_entries j.relation n j.count) (sym from))
    ∙ ap (λ n. entries_of_jobs None (take n (j ∷ js))) (sym one)

-- without a map no block is left out
whole_without_map : (js : List Job) → AreWholeButLast None js
whole_without_map [] = tt
whole_without_map (j ∷ []) = tt
whole_without_map (j ∷ k ∷ js) = (range_count j.relation j.first j.count, whole_without_map (k ∷ js))

-- so many blocks, from the job's first on
abbrev pub stream_blocks : Job → ℕ → Option MapFilter → Blocks
stream_blocks j count by_map =
    record { relation = j.relation; first = j.first; count = count; by_map = by_map }

-- without a map one stream reads a job and those that follow it
pub stream_of_following : (relations blocks many : ℕ) (j : Job) (js : List Job)
    → IsNewJob relations j → many ≤ length js
    → job_entries j.relation (j.first + j.count) blocks ≡ entries_of_jobs None (take many js)
    → (blocks ≤ 64 * many) × (blocks + j.count ≤ 4096) → j.first + j.count + blocks ≤ 2 ^ 32
    → (b : Blocks) → b ≡ stream_blocks j (blocks + j.count) None
    → IsStreamOfJobs b (take (many + 1) (j ∷ js))
stream_of_following relations blocks many j js fresh within behind few end b is =
    let long = length-take-le (many + 1) (j ∷ js) (omega arith) in
    let one : many + 1 ≡ suc many = omega arith in
    rw is (record {
      some = omega (arith, long);
      entries = job_and_following j.relation j.first blocks many j js refl refl behind;
      whole = whole_without_map (take (many + 1) (j ∷ js));
      few = omega (arith, long, fresh.few);
      within = omega arith;
      relation_is = λ d. ap (λ n. (slice_index_or (take n (j ∷ js)) 0 d).relation) one;
    })

-- whatever is left out, one stream reads one job
pub stream_of_one : (by_map : Option MapFilter) (relations : ℕ) (j : Job) (js : List Job)
    → IsNewJob relations j
    → (b : Blocks) → b ≡ stream_blocks j (0 + j.count) by_map
    → IsStreamOfJobs b (take 1 (j ∷ js))
stream_of_one by_map relations j js fresh b is =
    let f = filter_of_skipping by_map in
    let same : 0 + j.count ≡ j.count = omega arith in rw is (record {
      some = omega arith;
      relation_is = λ d. refl;
      entries = ap (unskipped_range f j.relation j.first) same ∙ sym (append-nil (entries_of_job f j));
      whole = tt;
      few = omega (arith, fresh.few);
      within = omega (arith, fresh.within);
    })
