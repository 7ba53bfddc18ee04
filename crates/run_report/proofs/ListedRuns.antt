-- Runs that listed blocks, all of them or up to a stop.
use Rattle.std.proofs.Common.{◌≡◌, ℕ, ◌+◌, ◌<◌, ◌≤◌, List, length, get_or, refl, ap, arith, subst}
use Rattle.std.proofs.Common.{sym, ◌∙◌, true, false}
use Rattle.std.specs.Prelude.{Option, Some, None, slice_index}
use Rattle.page_check.specs.Told.{Told, relation_block_count}
use Rattle.aio_disk.specs.Counts.{count_plus}
use Rattle.aio_handle.specs.Execution.{last_count}
use Rattle.command_line.specs.Command.{Command, command_relations}
use Rattle.request_list.specs.RequestList.{Part, blocks_of_parts, request_list, request_parts}
use Rattle.run_report.specs.Outcomes.{is_refused, can_end_listing}
use Rattle.run_report.specs.Lengths.{HasAllLengths}
use Rattle.run_report.specs.Output.{ObservedState, observed_state}
use Rattle.run_report.specs.Sums.{HasListed}
use Rattle.heap_scan.specs.declared.sums.PageSums.{PageSums}
use Rattle.request_list.specs.RequestList.{map_pages_known}
use Rattle.run_report.specs.Run.{IsListedRun, EarlierFit, FitsInOrder, lengths_known, limit_known}
use Rattle.run_report.specs.declared.report.Outcome.{Outcome}
use Rattle.run_report.specs.declared.report.Outcome.TheVariants.{Usage, CannotOpen, NoLength}
use Rattle.run_report.specs.declared.report.Outcome.TheVariants.{NoMemory, TooLong}
use Rattle.request_list.proofs.FileRequestsAppend.{request_parts-same}
use Rattle.request_list.proofs.PartsOfRequests.{request_blocks}
use Rattle.scan_settings.specs.Settings.{page_rules}

-- the lengths fit
lengths_fit : (told : Option Told) (segment relations : ℕ) (lengths : List ℕ)
    → HasAllLengths told segment relations lengths
    → EarlierFit (limit_known told segment) (lengths_known told (slice_index lengths)) relations
lengths_fit None segment relations lengths has = λ q below. has.fit q
lengths_fit (Some t) segment relations lengths has = λ q below.
    (let is : get_or lengths q 0 ≡ relation_block_count t q = has.told_lengths q (omega (arith, has.all)) in
    omega (arith, has.fit q))

fits_where_listed : (limit : ℕ) (lengths : ℕ → ℕ) (relations : ℕ) (o : Outcome)
    → is_refused o ≡ false → EarlierFit limit lengths relations
    → FitsInOrder limit lengths relations o
fits_where_listed limit lengths relations NoMemory is fit = tt
fits_where_listed limit lengths relations Usage is fit = tt
fits_where_listed limit lengths relations CannotOpen is fit = tt
fits_where_listed limit lengths relations (NoLength r) is fit = absurd (cc)
fits_where_listed limit lengths relations (TooLong r) is fit = absurd (cc)
fits_where_listed limit lengths relations _ is fit = fit

same_parts : (told : Option Told) (segment relations : ℕ) (command : Command)
    (lengths : List ℕ) (map_page : ℕ → List ℕ) → relations ≡ length (command_relations command)
    → HasAllLengths told segment relations lengths
    → request_parts (slice_index lengths) map_page command
    ≡ request_parts (lengths_known told (slice_index lengths)) map_page command
same_parts None segment relations command lengths map_page all has = refl
same_parts (Some t) segment relations command lengths map_page all has =
    request_parts-same (slice_index lengths) (relation_block_count t) map_page command
    (λ r below. has.told_lengths r (omega (arith, has.all)))

pub listing_not_refused : (o : Outcome) → can_end_listing o ≡ true → is_refused o ≡ false
listing_not_refused Usage is = absurd (cc)
listing_not_refused CannotOpen is = absurd (cc)
listing_not_refused (NoLength r) is = absurd (cc)
listing_not_refused (TooLong r) is = absurd (cc)
listing_not_refused _ is = refl

refused_not : (o : Outcome) → is_refused o ≡ false → is_refused o ≡ true → ⊥
refused_not o not is = absurd (cc)

-- blocks were listed, all of them or up to a stop
pub ran_listed : (told now : Option Told) (segment relations : ℕ) (command : Command)
    (lengths : List ℕ) (given : ℕ → List ℕ) (output after : Option (List ℕ)) (read : ℕ)
    (o : Outcome) (sums : PageSums) (w : List ℕ) → now ≡ told
    → relations ≡ length (command_relations command)
    → HasAllLengths told segment relations lengths
    → HasListed command now (request_parts (slice_index lengths)
    (map_pages_known now (page_rules command.settings) given) command) output after o sums w
    → (read < last_count → read ≤ length (request_list (slice_index lengths)
    (map_pages_known now (page_rules command.settings) given) command))
    → IsListedRun told segment relations command (observed_state output 0)
    (observed_state after read) o sums w
ran_listed told now segment relations command lengths given output after read o sums w same all has
    listed few =
    let map_page = map_pages_known told (page_rules command.settings) given in
    let parts = same_parts told segment relations command lengths map_page all has in
    let requests = sym (request_blocks (slice_index lengths) map_page command)
    ∙ ap blocks_of_parts parts
    ∙ request_blocks (lengths_known told (slice_index lengths)) map_page command in
    let L : Option Told → Type 0 =
    λ n. HasListed command n (request_parts (slice_index lengths)
    (map_pages_known n (page_rules command.settings) given) command) output after o sums w in
    let K : List Part → Type 0 = λ l. HasListed command told l output after o sums w in
    let begun = listing_not_refused o listed.lists.ends_listing in
    let F : Option Told → Type 0 = λ n. read < last_count → read ≤ length (request_list
    (slice_index lengths) (map_pages_known n (page_rules command.settings) given) command) in
    let fewer = subst F same few in record {
      answered = slice_index lengths;
      map_page = given;
      in_order = fits_where_listed _ _ relations o begun
          (lengths_fit told segment relations lengths has);
      is_output = λ is. subst K parts (subst L same listed);
      few_reads = λ below. omega (arith, fewer below, ap length requests);
      output_same = λ is. absurd (refused_not o begun is);
    }

shelf_few : (read reads now most : ℕ) → now ≡ count_plus read reads
    → (read < last_count → read ≤ 0 + most) → now < last_count → now ≤ reads + most
shelf_few read reads now most back few below = omega (arith, back, few)

shelf_untouched : (output after : Option (List ℕ)) (read reads now : ℕ)
    → now ≡ count_plus read reads → observed_state after read ≡ observed_state output 0
    → observed_state after now ≡ observed_state output reads
shelf_untouched output after read reads now back same =
    let none : read ≡ 0 = ap (λ (s : ObservedState). s.reads) same in
    let kept : now ≡ reads = omega (arith, back, none) in
    let output_same : after ≡ output = ap (λ (s : ObservedState). s.written) same in
    rw (kept, output_same) refl

-- a disk that was not read before is taken back
pub ran_on_shelf : (told now : Option Told) {segment : ℕ} (relations count : ℕ) (command : Command)
    (output after : Option (List ℕ)) (read reads total : ℕ) (o : Outcome) (sums : PageSums)
    (w : List ℕ) → now ≡ told → count ≡ relations → total ≡ count_plus read reads
    → IsListedRun now segment count command (observed_state output 0) (observed_state after read) o sums w
    → IsListedRun told segment relations command (observed_state output reads)
    (observed_state after total) o sums w
ran_on_shelf told now relations count command output after read reads total o sums w same all back
    run =
    rw (← same, ← all) (record {
      answered = run.answered;
      map_page = run.map_page;
      in_order = run.in_order;
      is_output = run.is_output;
      few_reads = shelf_few read reads total _ back run.few_reads;
      output_same = λ is. (let kept = run.output_same is in
          (shelf_untouched output after read reads total back kept.0, kept.1));
    })
