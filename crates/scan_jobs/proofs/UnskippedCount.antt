-- How many blocks are not left out.
use Rattle.std.proofs.Common.{◌≡◌, ℕ, ◌≤◌, Bool, not, List, [], ◌∷◌, length, refl, ◌∙◌, arith}
use Rattle.std.specs.Prelude.{Option, Some, None}
use Rattle.std.specs.List.{filter, range_with_len}
use Rattle.std.proofs.lemmas.List.{length-map}
use Rattle.std.proofs.lemmas.List.Filters.{length-filter_both}
use Rattle.std.proofs.lemmas.List.FromFn.{length-range_with_len}
use Rattle.std.proofs.lemmas.List.Sums.{sum_by-cons}
use Rattle.heap_scan.specs.Job.{block_entry, job_entries}
use Rattle.vis_map.specs.Bits.{is_marked}
use Rattle.scan_jobs.specs.BlockFilter.{BlockFilter, unskipped_range}
use Rattle.scan_jobs.specs.Jobs.{job_block_count, entries_of_job, count_unskipped}
use Rattle.scan_jobs.specs.declared.job.Job.{Job}

-- a test leaves at most what there was
filtered_few : {X : Type 0} (p : X → Bool) (xs : List X) → length (filter p xs) ≤ length xs
filtered_few p xs = (let all = length-filter_both p (λ x. not (p x)) (λ x. refl) xs in omega arith)

pub range_count : (relation first count : ℕ) → length (job_entries relation first count) ≡ count
range_count relation first count =
    length-map (range_with_len first count) (block_entry relation)
    ∙ length-range_with_len first count

pub few_in_range : (block_filter : Option BlockFilter) (relation first count : ℕ)
    → length (unskipped_range block_filter relation first count) ≤ count
few_in_range None relation first count =
    (let n = range_count relation first count in omega arith)
few_in_range (Some s) relation first count =
    (let n = range_count relation first count in
    let few = filtered_few (λ e. not (is_marked s.pages s.skip e.block))
    (job_entries relation first count) in omega arith)

-- where there is no map, all that are asked for
pub none_left_out : (jobs : List Job) → count_unskipped None jobs ≡ job_block_count jobs
none_left_out [] = refl
none_left_out (j ∷ jobs) =
    (let here = range_count j.relation j.first j.count in
    let rest = none_left_out jobs in
    let a = sum_by-cons (λ (k : Job). length (entries_of_job None k)) j jobs in
    let b = sum_by-cons (λ (k : Job). k.count) j jobs in omega arith)
