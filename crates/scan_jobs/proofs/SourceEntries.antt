-- The entries that a source of a job's blocks gives.
use Rattle.std.proofs.Common.{◌≡◌, ℕ, Bool, true, false, cond, List, [], ◌∷◌, length, map, refl}
use Rattle.std.proofs.Common.{sym, ap, ◌∙◌, arith, ◌≤◌}
use Rattle.std.specs.Prelude.{Option, Some, None}
use Rattle.std.specs.List.{filter, range_with_len}
use Rattle.std.proofs.lemmas.List.{length-map}
use Rattle.block_source.specs.BlocksLeft.{consecutive_blocks, block_alone}
use Rattle.heap_scan.specs.Job.{job_entries, block_entry}
use Rattle.stream_answer.specs.StreamAnswers.{stream_entries, stream_entry}
use Rattle.scan_jobs.specs.BlockFilter.{BlockFilter, is_unskipped, unskipped_entries}
use Rattle.scan_jobs.specs.BlockFilter.{unskipped_range, unskipped_source}
use Rattle.scan_jobs.proofs.UnitEntries.{E}
use Rattle.scan_jobs.proofs.UnskippedCount.{few_in_range}

abbrev pub Blocks : Type 0
Blocks = List (ℕ × Unit {0})

mapped : (r : ℕ) (blocks : List ℕ)
    → map (stream_entry r) (map block_alone blocks) ≡ map (block_entry r) blocks
mapped r [] = refl
mapped r (b ∷ bs) = ap (λ (l : List E). block_entry r b ∷ l) (mapped r bs)

-- the blocks that a range gives
pub range_entries : (r first count : ℕ)
    → stream_entries r (consecutive_blocks first count) ≡ job_entries r first count
range_entries r first count = mapped r (range_with_len first count)

-- where there is no map all are left
all_left : (blocks : Blocks) → filter (λ b. true) blocks ≡ blocks
all_left [] = refl
all_left (b ∷ blocks) = ap (λ (rest : Blocks). b ∷ rest) (all_left blocks)

-- a test of blocks is one of their entries
by_test : (r : ℕ) (b : Bool) (x : ℕ × Unit {0}) (rest : Blocks) (entries : List E)
    → stream_entries r rest ≡ entries
    → stream_entries r (cond b (x ∷ rest) rest) ≡ cond b (stream_entry r x ∷ entries) entries
by_test r true x rest entries same = ap (λ (es : List E). stream_entry r x ∷ es) same
by_test r false x rest entries same = same

tested : (r : ℕ) (keeps : ℕ → Bool) (blocks : Blocks)
    → stream_entries r (filter (λ b. keeps b.0) blocks)
    ≡ filter (λ e. keeps e.block) (stream_entries r blocks)
tested r keeps [] = refl
tested r keeps (b ∷ blocks) =
    by_test r (keeps b.0) b (filter (λ x. keeps x.0) blocks)
    (filter (λ e. keeps e.block) (stream_entries r blocks)) (tested r keeps blocks)

kept_entries : (block_filter : Option BlockFilter) (r : ℕ) (blocks : Blocks)
    → stream_entries r (filter (λ b. is_unskipped block_filter b.0) blocks)
    ≡ unskipped_entries block_filter (stream_entries r blocks)
kept_entries None r blocks = ap (stream_entries r) (all_left blocks)
kept_entries (Some s) r blocks = tested r (is_unskipped (Some s)) blocks

-- the entries that a source gives of a range, without the blocks that are left out
pub source_entries : (block_filter : Option BlockFilter) (r first count : ℕ)
    → stream_entries r (unskipped_source block_filter first count)
    ≡ unskipped_range block_filter r first count
source_entries block_filter r first count = kept_entries block_filter r
    (consecutive_blocks first count) ∙ ap (unskipped_entries block_filter)
    (range_entries r first count)

-- as many as are not left out, and no more than there are
pub source_count : (block_filter : Option BlockFilter) (r first count : ℕ)
    → length (unskipped_source block_filter first count)
    ≡ length (unskipped_range block_filter r first count)
source_count block_filter r first count =
    sym (length-map (unskipped_source block_filter first count) (stream_entry r))
    ∙ ap length (source_entries block_filter r first count)

pub source_few : (block_filter : Option BlockFilter) (first count : ℕ)
    → length (unskipped_source block_filter first count) ≤ count
source_few block_filter first count =
    (let same = source_count block_filter 0 first count in
    let few = few_in_range block_filter 0 first count in omega arith)
