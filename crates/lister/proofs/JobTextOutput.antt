-- The text of one job was written, or its write failed.
use Rattle.std.proofs.Common.{◌≡◌, ◌≢◌, ℕ, ◌≤◌, List, [], ◌∷◌, take, length, refl, sym, ap, ◌∙◌}
use Rattle.std.proofs.Common.{subst, arith, append-nil, false, true, map, inl, inr, length-append}
use Rattle.std.proofs.Common.{length-take}
use Rattle.std.specs.Prelude.{Option, Some, None, slice_get, ⊤, cond}
use Rattle.std.proofs.lemmas.List.{take_all, length-map}
use Rattle.std.proofs.lemmas.Option.{get_or_from_slice_get, slice_get_within}
use Rattle.std.proofs.lemmas.List.Sums.{sum_by-cons}
use Rattle.page_check.specs.Told.{Told}
use Rattle.page_check.specs.declared.rules.DamagedPages.TheVariants as damaged_pages
use Rattle.page_check.specs.SynchronousAnswer.{Reader, Found, Page as FoundPage, BadPage}
use Rattle.page_check.specs.SynchronousAnswer.{Reading, Known, Unknown}
use Rattle.page_check.specs.SynchronousAnswer.{Absent, Ending, End, Invalid as SaidInvalid}
use Rattle.page_check.specs.SynchronousAnswer.{PastEnd as SaidPastEnd, entry_found, found_ending}
use Rattle.page_check.specs.SynchronousAnswer.{stop_ending, first_stop, reading_of}
use Rattle.page_check.specs.SynchronousAnswer.{entry_given, read_count}
use Rattle.page_check.specs.IsAnswer.{AreFirst, EndsAt, IsEnding, OneEnding}
use Rattle.page_check.proofs.AnswersOfLists.{first_stop-length}
use Rattle.heap_scan.specs.Job.{IsJobAnswer, endings_of}
use Rattle.heap_scan.specs.Listing.{listing}
use Rattle.heap_scan.specs.Warnings.{warnings_of}
use Rattle.heap_scan.specs.declared.sums.PageSums.{PageSums}
use Rattle.scan_jobs.specs.Jobs.{entries_of_job, answered_ending, unread_job_count, is_unread}
use Rattle.scan_jobs.specs.declared.job.Ending.{Ending as JobEnding}
use Rattle.scan_jobs.specs.declared.job.Ending.TheVariants as ending
use Rattle.scan_jobs.specs.declared.job.Job.{Job}
use Rattle.aio_disk.specs.Sink.{SinkGrew, SinkGrewByPrefix}
use Rattle.request_list.specs.RequestList.{Page, Request, blocks_of_parts, request}
use Rattle.run_report.specs.Outcomes.{outcome_ending, can_end_listing, named_block, is_output_cut_off}
use Rattle.run_report.specs.Output.{OutputGrew, IsOutput, WriteFaultsCounted, ListFormat}
use Rattle.run_report.specs.Output.{format_of_options}
use Rattle.run_report.specs.Outcomes.{unread_count}
use Rattle.lister.specs.ListerState.{outcome_of_ending, JobTextWritten}
use Rattle.run_report.specs.declared.report.Outcome.{Outcome}
use Rattle.run_report.specs.declared.report.Outcome.TheVariants.{CannotWrite, NoMemory}
use Rattle.request_list.proofs.BlocksOfOneRelation.{AreOf}
use Rattle.lister.proofs.UnskippedOfOneRelation.{job_entries_of_relation}
use Rattle.run_report.proofs.CutsInParts.{cut_alone}
use Rattle.run_report.proofs.SinkTextsAppend.{SinkGrew-same, SinkGrewByPrefix-whole}
use Rattle.run_report.proofs.OutputsAppend.{no_listing, no_warnings, with_blocks}

-- an entry of blocks of one relation
entry_here : (r : ℕ) (blocks : List Request) → AreOf r blocks → (k b : ℕ) (e : Request)
    → slice_get blocks k ≡ Some e → b ≡ e.block → slice_get blocks k ≡ Some (request r b)
entry_here r blocks all k b e here named =
    let relation : e.relation ≡ r =
    ap (λ (x : Request). x.relation) (sym (get_or_from_slice_get blocks k e e here))
    ∙ all k e (slice_get_within blocks k e here) in
    let is : e ≡ request r b = ap (λ (n : ℕ). request n e.block) relation
    ∙ ap (request r) (sym named) in
    here ∙ ap {B = Option Request} (λ (x : Request). Some x) is

damaged_at : (x : Found) (n b : ℕ) → found_ending x n ≡ SaidInvalid b → b ≡ n
damaged_at (FoundPage mark bytes) n b is = absurd (cc)
damaged_at BadPage n b is = cc
damaged_at Absent n b is = absurd (cc)

absent_at : (x : Found) (n b : ℕ) → found_ending x n ≡ SaidPastEnd b → b ≡ n
absent_at (FoundPage mark bytes) n b is = absurd (cc)
absent_at BadPage n b is = absurd (cc)
absent_at Absent n b is = cc

-- the entry where reading stopped
stop_entry : (f : Reader) (end : Ending) (b : ℕ)
    → ((x : Found) (n : ℕ) → found_ending x n ≡ end → b ≡ n) → (End ≢ end)
    → (stop : Option Request) → stop_ending f stop ≡ end
    → (e : Request) × (stop ≡ Some e) × (b ≡ e.block)
stop_entry f end b at early None is = absurd (early is)
stop_entry f end b at early (Some e) is = (e, refl, at (entry_found f e) e.block is)

-- there are no more pages than blocks
pages_few : (found : Reading) (blocks : List Request) (pages : List Page)
    → AreFirst found blocks pages → length pages ≤ length blocks
pages_few (Unknown rules) blocks pages first =
    omega (
      arith,
      ap length first.1.1,
      length-append (map (λ (g : Page). g.entry) pages) first.1.0,
      length-map pages (λ (g : Page). g.entry),
    )
pages_few (Known f) blocks pages first =
    let n = read_count f blocks in
    omega (
      arith,
      ap length first.1,
      length-append pages first.0,
      length-map (take n blocks) (entry_given f),
      length-take n blocks,
    )

module _ (r : ℕ) (blocks : List Request) (all_of : AreOf r blocks) where
  invalid_here : (found : Reading) (k b : ℕ) → EndsAt found blocks k (SaidInvalid b)
      → slice_get blocks k ≡ Some (request r b)
  invalid_here (Unknown rules) k b ends = entry_here r blocks all_of k b ends.next ends.here ends.named
  invalid_here (Known f) k b ends =
      let stop = stop_entry f (SaidInvalid b) b (λ x n. damaged_at x n b) (λ e. cc)
      (first_stop f blocks) ends.1 in
      entry_here r blocks all_of k b stop.0
      (ap (slice_get blocks) ends.0 ∙ sym (first_stop-length f blocks) ∙ stop.1) stop.2

  missing_here : (found : Reading) (k b : ℕ) → EndsAt found blocks k (SaidPastEnd b)
      → slice_get blocks k ≡ Some (request r b)
  missing_here (Unknown rules) k b ends = entry_here r blocks all_of k b ends.next ends.here ends.named
  missing_here (Known f) k b ends =
      let stop = stop_entry f (SaidPastEnd b) b (λ x n. absent_at x n b) (λ e. cc)
      (first_stop f blocks) ends.1 in
      entry_here r blocks all_of k b stop.0
      (ap (slice_get blocks) ends.0 ∙ sym (first_stop-length f blocks) ∙ stop.1) stop.2

  module _ (m : ListFormat) (told : Option Told) (text warnings : List ℕ) (sums : PageSums)
      (b a : Option (List ℕ)) where
    abbrev Answer : Option Ending → Type 0
    Answer end =
        IsJobAnswer m.page_format (reading_of m.rules told) (λ _. ⊤) blocks text warnings sums
        end

    abbrev texts : List Page → List ℕ
    texts pages = listing m.page_format pages

    -- the blocks were listed, with these sums
    abbrev Listed : Outcome → List ℕ → Type 0
    Listed o w = (lists : IsOutput m told (blocks ∷ []) b a o w) × (lists.sums ≡ sums)

    alone : blocks_of_parts (blocks ∷ []) ≡ blocks
    alone = append-nil blocks

    abbrev as_part : (end : Option Ending) → Answer end
        → IsJobAnswer m.page_format (reading_of m.rules told) (λ _. ⊤) (blocks_of_parts (blocks ∷ []))
        text warnings sums end
    as_part end answer = with_blocks m told blocks (blocks_of_parts (blocks ∷ [])) text warnings
        sums end (sym alone) answer

    -- the job's text was written whole, and its warnings behind it
    listed_whole : (o : Outcome) → can_end_listing o ≡ true → (answer : Answer (outcome_ending o))
        → ((e : Request) → named_block o ≡ Some e
        → slice_get blocks (length answer.pages) ≡ Some e)
        → OutputGrew o b a text → SinkGrew b a text → (m.rules.damaged ≢ damaged_pages.Zero → warnings ≡ [])
        → (is_output_cut_off o ≡ true → o ≡ NoMemory) → Listed o warnings
    listed_whole o begun answer here grew all quiet memory =
        let n = length answer.pages in
        let every = take_all n answer.pages (omega arith) in (
          record {
            ends_listing = begun;
            text = text;
            all_warnings = warnings;
            sums = sums;
            answer = as_part (outcome_ending o) answer;
            named_block_is = λ e is. (ap (λ (l : List Request). slice_get l n) alone ∙ here e is);
            output_grew = grew;
            whole = n;
            pages_within = omega arith;
            all = λ _. refl;
            stopped_behind = λ is. inr (
              memory is,
              SinkGrew-same b a text _ (answer.text_is ∙ ap texts (sym every)) all,
            );
            warnings_are = answer.warnings_are ∙ ap warnings_of (sym every);
            no_warnings = quiet;
          },
          refl,
        )

    pub text_listed : (end : JobEnding) → Answer (answered_ending end) → SinkGrew b a text
        → (m.rules.damaged ≢ damaged_pages.Zero → warnings ≡ []) → Listed (outcome_of_ending r end) warnings
    text_listed ending.Pages answer grew quiet =
        listed_whole (outcome_of_ending r ending.Pages) refl answer
        (λ e is. absurd (cc)) grew grew quiet (λ is. absurd (cc))
    text_listed (ending.Invalid n) answer grew quiet =
        listed_whole (outcome_of_ending r (ending.Invalid n)) refl answer
        (λ e is. (invalid_here (reading_of m.rules told) (length answer.pages) n
        answer.answers.endings.0 ∙ is)) grew grew quiet (λ is. absurd (cc))
    text_listed (ending.PastEnd n) answer grew quiet =
        listed_whole (outcome_of_ending r (ending.PastEnd n)) refl answer
        (λ e is. (missing_here (reading_of m.rules told) (length answer.pages) n
        answer.answers.endings.0 ∙ is)) grew grew quiet (λ is. absurd (cc))
    text_listed (ending.Unread n) answer grew quiet =
        listed_whole (outcome_of_ending r (ending.Unread n)) refl answer
        (λ e is. (let stop = answer.answers.endings.0 in
        entry_here r blocks all_of (length answer.pages) n stop.next stop.here stop.named ∙ is))
        grew grew quiet (λ is. absurd (cc))
    text_listed ending.NoMemory answer grew quiet =
        listed_whole (outcome_of_ending r ending.NoMemory) refl answer (λ e is. absurd (cc))
        (SinkGrewByPrefix-whole b a text grew) grew quiet (λ is. refl)

    -- the write failed or there was no memory for it, so that nothing was warned of
    abbrev without_end : (kept : Option Ending) → kept ≡ None → (end : Option Ending) → Answer end
        → Answer kept
    without_end kept none end answer =
        let P : Option Ending → Type 0 = λ e. OneEnding
        (IsEnding (reading_of m.rules told) (λ _. ⊤) blocks (length answer.pages)) (endings_of e) in
        record {
          pages = answer.pages;
          text_is = answer.text_is;
          warnings_are = answer.warnings_are;
          sums_are = answer.sums_are;
          answers = record { first = answer.answers.first; endings = subst P (sym none) tt };
        }

    unwritten : (o : Outcome) (end : JobEnding) → can_end_listing o ≡ true → is_output_cut_off o ≡ true
        → named_block o ≡ None → outcome_ending o ≡ None → Answer (answered_ending end)
        → OutputGrew o b a text
        → text ≢ [] → SinkGrewByPrefix b a text → Listed o []
    unwritten o end begun cut stops ends answer grew some first =
        let few = pages_few (reading_of m.rules told) blocks answer.pages answer.answers.first in (
          record {
            ends_listing = begun;
            text = text;
            all_warnings = warnings;
            sums = sums;
            answer = as_part (outcome_ending o)
                (without_end (outcome_ending o) ends (answered_ending end) answer);
            named_block_is = λ e is. absurd (cc);
            output_grew = grew;
            whole = 0;
            pages_within = omega arith;
            all = λ is. absurd (cc);
            stopped_behind = λ is. inl (cut_alone m.page_format blocks answer.pages b a text few answer.text_is
                some (no_listing m.page_format) first);
            warnings_are = sym no_warnings;
            no_warnings = λ _. refl;
          },
          refl,
        )

module _ (job : Job) (b a : Option (List ℕ)) where
  pub job_written : (o : Outcome) → o ≡ outcome_of_ending job.relation job.ending
      → SinkGrew b a job.text.items → JobTextWritten job b a o job.warnings.items
  job_written o is grew = λ skips m told asked listed.
      (let w = job.warnings.items in
      let blocks = entries_of_job skips asked in
      let Q : Outcome → Type 0 = λ x. (lists : IsOutput (format_of_options m) told (blocks ∷ [])
      b a x w) × (lists.sums ≡ job.tally) in
      let R : ℕ → Type 0 = λ r. Q (outcome_of_ending r job.ending) in
      subst Q (sym is) (subst R (sym listed.same.0)
      (text_listed asked.relation blocks (job_entries_of_relation skips asked)
      (format_of_options m) told job.text.items w
      job.tally b a job.ending listed.answer grew listed.no_warnings)))

  pub job_unwritten : job.text.items ≢ [] → SinkGrewByPrefix b a job.text.items
      → JobTextWritten job b a CannotWrite []
  job_unwritten some grew = λ skips m told asked listed.
      unwritten asked.relation (entries_of_job skips asked)
      (job_entries_of_relation skips asked) (format_of_options m)
      told job.text.items job.warnings.items job.tally b a CannotWrite job.ending refl refl refl
      refl listed.answer grew some grew

  pub job_out_of_memory : job.text.items ≢ [] → SinkGrewByPrefix b a job.text.items
      → JobTextWritten job b a NoMemory []
  job_out_of_memory some grew = λ skips m told asked listed.
      unwritten asked.relation (entries_of_job skips asked)
      (job_entries_of_relation skips asked) (format_of_options m)
      told job.text.items job.warnings.items job.tally b a NoMemory job.ending refl refl refl refl
      listed.answer grew some grew

ended_unread : (r : ℕ) (end : JobEnding)
    → unread_count (outcome_of_ending r end) ≡ cond (is_unread end) 1 0
ended_unread r ending.Pages = refl
ended_unread r (ending.Invalid b) = refl
ended_unread r (ending.Unread b) = refl
ended_unread r (ending.PastEnd b) = refl
ended_unread r ending.NoMemory = refl

-- a job that ended in Unread is one
pub one_unread : (job : Job) (o : Outcome) → o ≡ outcome_of_ending job.relation job.ending
    → unread_count o ≤ unread_job_count (job ∷ [])
one_unread job o is =
    let counted = sum_by-cons (λ (j : Job). cond (is_unread j.ending) 1 0) job [] in
    let P : ℕ → Type 0 = λ n. n ≤ unread_job_count (job ∷ []) in
    subst P (sym (ap unread_count is))
    (omega (arith, counted, ended_unread job.relation job.ending))

-- a job ends in no fault of a write
pub not_write : (r : ℕ) (end : JobEnding) → outcome_of_ending r end ≢ CannotWrite
not_write r ending.Pages = λ e. cc
not_write r (ending.Invalid b) = λ e. cc
not_write r (ending.Unread b) = λ e. cc
not_write r (ending.PastEnd b) = λ e. cc
not_write r ending.NoMemory = λ e. cc

pub stopped_by_job : (job : Job) (o : Outcome) (before now : ℕ)
    → o ≡ outcome_of_ending job.relation job.ending → before ≤ now → WriteFaultsCounted before now o
stopped_by_job job o before now is later = record {
  later = later;
  cannot_write = λ fault. absurd (not_write job.relation job.ending (sym is ∙ fault));
}
