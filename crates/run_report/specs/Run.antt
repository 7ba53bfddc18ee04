-- What a run asks for, and what one thread's synchronous reads of it give.
use Rattle.std.specs.Prelude.{◌≡◌, ◌⊎◌, ℕ, ◌+◌, ◌<◌, ◌≤◌, List, length, take, slice_get, Option}
use Rattle.std.specs.Prelude.{[], ◌++◌, Some, None, IfSome, false, true, nat_lt, if◌then◌else◌}
use Rattle.page_check.specs.Told.{Told, relation_block_count}
use Rattle.page_check.specs.SynchronousAnswer.{Found, Page as FoundPage, BadPage, Absent}
use Rattle.page_check.specs.SynchronousAnswer.{entry_found, found_page}
use Rattle.page_check.specs.declared.rules.DamagedPages.{DamagedPages}
use Rattle.page_check.specs.SynchronousAnswer.{Reader, found_at, readable_pages, first_stop}
use Rattle.heap_scan.specs.Listing.{PageFormat, listing}
use Rattle.heap_scan.specs.Sums.{sums_of}
use Rattle.heap_scan.specs.Warnings.{warnings_of}
use Rattle.aio_disk.specs.Shelf.{AllThereIfTold, Files, shelf_told}
use Rattle.aio_disk.specs.Sink.{SinkGrew, SinkGrewByPrefix}
use Rattle.aio_handle.specs.Execution.{last_count}
use Rattle.command_line.specs.Command.{Command, MapOption, length_limit, command_relations}
use Rattle.generated_pages.specs.GeneratedPages.{generated_told}
use Rattle.request_list.specs.RequestList.{Request, Page, block_range, without_map_pages, request}
use Rattle.request_list.specs.RequestList.{Part, request_list, request_parts}
use Rattle.run_report.specs.Outcomes.{is_refused, is_output_cut_off}
use Rattle.run_report.specs.Output.{ObservedState, StoppedBehind, observed_state}
use Rattle.run_report.specs.Sums.{HasListed, saturated_sums}
use Rattle.request_list.specs.RequestList.{map_pages_known}
use Rattle.run_report.specs.declared.report.Outcome.{Outcome}
use Rattle.run_report.specs.declared.report.Outcome.TheVariants.{Done, Invalid, Usage, CannotOpen}
use Rattle.run_report.specs.declared.report.Outcome.TheVariants.{NoLength, Unread, CannotWrite}
use Rattle.run_report.specs.declared.report.Outcome.TheVariants.{NoMemory, Missing, TooLong}
use Rattle.run_report.specs.declared.report.Outcome.TheVariants.{FaultsFound}
use Rattle.scan_settings.specs.PageFormats.{page_format}
use Rattle.scan_settings.specs.Settings.{page_rules}
use Rattle.scan_settings.specs.declared.page_text.PageText.{PageText}
use Rattle.scan_settings.specs.declared.page_text.PageText.TheVariants.{Items, Faults}
use Rattle.std.specs.Prelude.{◌∷◌}
use Rattle.std.specs.Prelude.{codes, decimal}
use Rattle.std.specs.List.{concat}
use Rattle.heap_scan.specs.declared.sums.PageSums.{PageSums}

-- the outcome where nothing but the pages ends a run
abbrev pub outcome_of_found : Found → ℕ → ℕ → Outcome
outcome_of_found (FoundPage mark bytes) r b = Done
outcome_of_found BadPage r b = Invalid r b
outcome_of_found Absent r b = Missing r b

abbrev pub outcome_of_stop : Reader → Option Request → Outcome
outcome_of_stop found None = Done
outcome_of_stop found (Some e) = outcome_of_found (entry_found found e) e.relation e.block

-- `pages P new Z items I`: how many pages were given, how many of them are all zeros, and how many
-- line pointers they have
abbrev pub summary_line : PageSums → List ℕ
summary_line sums =
    concat (codes "pages " ∷ decimal sums.pages ∷ codes " new " ∷ decimal sums.zero
    ∷ codes " items " ∷ decimal sums.items ∷ codes "\n" ∷ [])

-- `pages P new Z faults F`: how many pages were checked, how many of them are all zeros, and how many
-- faults were told of them
abbrev pub check_line : PageSums → List ℕ
check_line sums =
    concat (codes "pages " ∷ decimal sums.pages ∷ codes " new " ∷ decimal sums.zero
    ∷ codes " faults " ∷ decimal sums.faults ∷ codes "\n" ∷ [])

-- what stands behind the last page: of a check the line of its sums. A check has no map.
abbrev pub closing_line : Option MapOption → PageText → PageSums → List ℕ
closing_line None (Faults options) sums = check_line sums
closing_line map page_text sums = []

-- how a run ends that has listed all: whether a fault was told. Where blocks are left out by a map,
-- none is.
abbrev pub fault_outcome : Option MapOption → PageSums → Outcome
fault_outcome None sums = if nat_lt 0 sums.faults then FaultsFound else Done
fault_outcome (Some map) sums = Done

-- over contents that are told: how many relations there are, how many blocks each has and may have,
-- the blocks that are asked for, their pages, how that ends, how each page is listed, in which
-- parts, what stands behind the last page, and what is written
pub record SynchronousRun : Type 0 where
  pub relations : ℕ
  pub lengths : ℕ → ℕ
  pub limit : ℕ
  pub requests : List Request
  pub pages : List Page
  pub outcome : Outcome
  pub format : PageFormat
  -- one for each write and its warnings; none where no page is listed
  pub parts : Option (List Part)
  pub closing : List ℕ
  pub text : List ℕ

-- the listing of files
abbrev pub listed_run : Told → Command → SynchronousRun
listed_run told command =
    let found = found_at (page_rules command.settings) told in
    let map_page : ℕ → List ℕ = λ block. found_page (found 1 block) in
    let requests = request_list (relation_block_count told) map_page command in
    let pages = readable_pages found requests in
    let format = without_map_pages command.map (page_format command.settings.page_text) in record {
      relations = length (command_relations command);
      lengths = relation_block_count told;
      limit = length_limit told.segment;
      requests = requests;
      pages = pages;
      outcome = outcome_of_stop found (first_stop found requests);
      format = format;
      parts = Some (request_parts (relation_block_count told) map_page command);
      closing = [];
      text = listing format pages;
    }

-- by the sums of its pages: what stands behind a listing that ended so, and the outcome
abbrev pub closing_of : Command → PageSums → Outcome → List ℕ
closing_of command sums Done = closing_line command.map command.settings.page_text sums
closing_of command sums _ = []

abbrev pub outcome_of_sums : Command → PageSums → Outcome → Outcome
outcome_of_sums command sums Done = fault_outcome command.map sums
outcome_of_sums command sums listed = listed

-- the run with what stands behind the last page
abbrev pub closed_run : Command → SynchronousRun → SynchronousRun
closed_run command run =
    let sums = saturated_sums (sums_of run.format run.pages) in
    let closing = closing_of command sums run.outcome in record run {
      outcome = outcome_of_sums command sums run.outcome;
      closing = closing;
      text = run.text ++ closing;
    }

abbrev pub file_run : Told → Command → SynchronousRun
file_run told command = closed_run command (listed_run told command)

-- over so many generated pages: all blocks of their relation, and the line of the sums of the pages
abbrev pub generated_run : DamagedPages → ℕ → SynchronousRun
generated_run damaged n =
    let found = found_at (record { checksums = false; damaged = damaged }) (generated_told n) in
    let format = page_format Items in
    let requests = block_range 0 0 n in
    let pages = readable_pages found requests in record {
      relations = 1;
      lengths = relation_block_count (generated_told n);
      limit = length_limit (generated_told n).segment;
      requests = requests;
      pages = pages;
      outcome = outcome_of_stop found (first_stop found requests);
      format = format;
      parts = None;
      closing = [];
      text = summary_line (sums_of format pages);
    }

-- a fact about the run of a command over these files, where they are told; over generated pages
-- whether or not
abbrev pub HoldsForSource : Option Files → Command → Option ℕ → (SynchronousRun → Type 0) → Type 0
HoldsForSource files c None P =
    IfSome (shelf_told files (command_relations c)) (λ told. P (file_run told c))
HoldsForSource files c (Some n) P = P (generated_run c.settings.damaged n)

-- where the words are a command
abbrev pub HoldsForRun : Option Files → Option Command → (SynchronousRun → Type 0) → Type 0
HoldsForRun files command P = IfSome command (λ c. HoldsForSource files c c.generated P)

-- each file of a command is there, where that is told; generated pages are no files
abbrev pub SourceFilesExist : Option Files → Command → Option ℕ → Type 0
SourceFilesExist files c None = AllThereIfTold files (command_relations c)
SourceFilesExist files c (Some n) = Unit {0}

abbrev pub CommandFilesExist : Option Files → Option Command → Type 0
CommandFilesExist files command = IfSome command (λ c. SourceFilesExist files c c.generated)

-- a block could not be read, and the pages before it were listed
pub record IsCutAt (run : SynchronousRun) (before after : Option (List ℕ)) (r b : ℕ) : Type 0 where
  pub k : ℕ
  pub named_block_is : slice_get run.requests k ≡ Some (request r b)
  pub pages_within : k ≤ length run.pages
  pub output_grew : SinkGrew before after (listing run.format (take k run.pages))

-- what a run with this outcome has written
abbrev pub RunWrites : SynchronousRun → Option (List ℕ) → Option (List ℕ) → Outcome → Type 0
RunWrites run before after Done = (run.outcome ≡ Done) × SinkGrew before after run.text
RunWrites run before after FaultsFound =
    (run.outcome ≡ FaultsFound) × SinkGrew before after run.text
RunWrites run before after (Invalid r b) =
    (run.outcome ≡ Invalid r b) × SinkGrew before after run.text
RunWrites run before after (Missing r b) =
    (run.outcome ≡ Missing r b) × SinkGrew before after run.text
RunWrites run before after (Unread r b) = IsCutAt run before after r b
RunWrites run before after CannotWrite = SinkGrewByPrefix before after run.text
RunWrites run before after NoMemory = SinkGrewByPrefix before after run.text
RunWrites run before after _ = after ≡ before

-- what stands behind the last page was cut, and the text of all k pages before it written whole
pub record IsCutInClosing (run : SynchronousRun) (before after : Option (List ℕ)) (k : ℕ) : Type 0
  where
    pub all : k ≡ length run.pages
    pub begun : ℕ
    pub output_grew : SinkGrew before after
        (listing run.format run.pages ++ take begun run.closing)

-- the text of the first k pages was written whole, where the output stopped, and these are their
-- warnings
pub record IsWarnedUpTo (run : SynchronousRun) (parts : List Part) (before after : Option (List ℕ))
    (outcome : Outcome) (warnings : List ℕ) : Type 0 where
  pub k : ℕ
  pub pages_within : k ≤ length run.pages
  pub stopped_behind : StoppedBehind run.format parts run.pages before after outcome k
      ⊎ IsCutInClosing run before after k
  pub warnings_are : warnings ≡ warnings_of (take k run.pages)

-- where no page is listed, nothing is warned of
abbrev pub IsWarnedWhereCut : SynchronousRun → Option (List Part) → Option (List ℕ)
    → Option (List ℕ) → Outcome → List ℕ → Type 0
IsWarnedWhereCut run None before after outcome warnings = warnings ≡ []
IsWarnedWhereCut run (Some parts) before after outcome warnings =
    IsWarnedUpTo run parts before after outcome warnings

-- what a run with this outcome has warned of: of the pages that it has listed
abbrev pub IsWarned : SynchronousRun → Option (List ℕ) → Option (List ℕ) → Outcome → List ℕ
    → Type 0
IsWarned run before after Done warnings = warnings ≡ warnings_of run.pages
IsWarned run before after FaultsFound warnings = warnings ≡ warnings_of run.pages
IsWarned run before after (Invalid r b) warnings = warnings ≡ warnings_of run.pages
IsWarned run before after (Missing r b) warnings = warnings ≡ warnings_of run.pages
IsWarned run before after (Unread r b) warnings =
    (cut : IsCutAt run before after r b) × (warnings ≡ warnings_of (take cut.k run.pages))
IsWarned run before after CannotWrite warnings =
    IsWarnedWhereCut run run.parts before after CannotWrite warnings
IsWarned run before after NoMemory warnings =
    IsWarnedWhereCut run run.parts before after NoMemory warnings
IsWarned run before after _ warnings = warnings ≡ []

-- the relations before this one are not too long
abbrev pub EarlierFit : ℕ → (ℕ → ℕ) → ℕ → Type 0
EarlierFit limit lengths r = (q : ℕ) → q < r → lengths q ≤ limit

-- lengths are taken in order, each tested before the next is taken: those before the one that is
-- named fit, and all fit where blocks were read
abbrev pub FitsInOrder : ℕ → (ℕ → ℕ) → ℕ → Outcome → Type 0
FitsInOrder limit lengths relations (TooLong r) =
    (r < relations) × (limit < lengths r) × EarlierFit limit lengths r
FitsInOrder limit lengths relations (NoLength r) = (r < relations) × EarlierFit limit lengths r
FitsInOrder limit lengths relations NoMemory = Unit {0}
FitsInOrder limit lengths relations Usage = Unit {0}
FitsInOrder limit lengths relations CannotOpen = Unit {0}
FitsInOrder limit lengths relations _ = EarlierFit limit lengths relations

-- the lengths that are told, or else those that were answered
abbrev pub lengths_known : Option Told → (ℕ → ℕ) → ℕ → ℕ
lengths_known (Some told) answered = relation_block_count told
lengths_known None answered = answered

-- the most blocks of a relation by the segment size that is told, or else by that of the disks
abbrev pub limit_known : Option Told → ℕ → ℕ
limit_known (Some told) segment = length_limit told.segment
limit_known None segment = length_limit segment

-- what is known of a listing over relations of this segment size, of its sums and of its warnings,
-- whether or not its contents are told
pub record IsListedRun (told : Option Told) (segment relations : ℕ) (command : Command)
    (before now : ObservedState) (outcome : Outcome) (sums : PageSums) (warnings : List ℕ)
    : Type 0 where
  pub answered : ℕ → ℕ
  pub map_page : ℕ → List ℕ
  pub in_order : FitsInOrder (limit_known told segment) (lengths_known told answered) relations
      outcome
  pub is_output : is_refused outcome ≡ false
      → HasListed command told
      (request_parts (lengths_known told answered)
      (map_pages_known told (page_rules command.settings) map_page) command) before.written now.written
      outcome sums warnings
  -- as far as the count goes, there were no more reads than blocks that were asked for
  pub few_reads : now.reads < last_count
      → now.reads ≤ before.reads + length (request_list (lengths_known told answered)
      (map_pages_known told (page_rules command.settings) map_page) command)
  pub output_same : is_refused outcome ≡ true → (now ≡ before) × (warnings ≡ [])

-- behind a listing this text was written, and the run ended so; or a begin of it was
abbrev pub IsClosed : List ℕ → Outcome → Option (List ℕ) → Option (List ℕ) → Outcome → Type 0
IsClosed text end before now outcome =
    ((outcome ≡ end) × SinkGrew before now text)
    ⊎ ((is_output_cut_off outcome ≡ true) × SinkGrewByPrefix before now text)

-- the run ended behind a listing with these sums that had ended so
abbrev pub IsConclusion : Command → PageSums → Outcome → Option (List ℕ) → Option (List ℕ)
    → Outcome → Type 0
IsConclusion command sums Done before now outcome =
    IsClosed (closing_of command sums Done) (fault_outcome command.map sums) before now outcome
IsConclusion command sums listed before now outcome = (outcome ≡ listed) × (now ≡ before)

-- what is known of a run, and of its warnings: pages were listed, and what stands behind them is by
-- their sums
pub record IsFileRun (told : Option Told) (segment relations : ℕ) (command : Command)
    (before now : ObservedState) (outcome : Outcome) (warnings : List ℕ) : Type 0 where
  pub between : Option (List ℕ)
  pub sums : PageSums
  pub ended : Outcome
  pub listed : IsListedRun told segment relations command before
      (observed_state between now.reads) ended sums warnings
  pub concluded : IsConclusion command sums ended between now.written outcome

-- how a run over generated pages may end
abbrev pub IsGeneratedOutcome : Outcome → Type 0
IsGeneratedOutcome outcome = (outcome ≡ Done) ⊎ ((outcome ≡ CannotWrite) ⊎ (outcome ≡ NoMemory))

-- what is known of a run over so many generated pages: the shelf that was handed in is not read,
-- and there is nothing to warn of
pub record IsGeneratedRun (damaged : DamagedPages) (n : ℕ) (before now : ObservedState) (outcome : Outcome)
    (warnings : List ℕ) : Type 0 where
  pub ends : IsGeneratedOutcome outcome
  pub in_order : FitsInOrder (length_limit (generated_told n).segment)
      (relation_block_count (generated_told n)) 1
      outcome
  pub writes : RunWrites (generated_run damaged n) before.written now.written outcome
  pub reads : now.reads ≡ before.reads
  pub no_warnings : warnings ≡ []
  pub warnings_are : IsWarned (generated_run damaged n) before.written now.written outcome warnings

abbrev pub IsSourceRun : Option Files → ℕ → Command → Option ℕ → ObservedState → ObservedState
    → Outcome → List ℕ → Type 0
IsSourceRun files segment c None before now outcome warnings =
    IsFileRun (shelf_told files (command_relations c)) segment (length (command_relations c)) c
    before now outcome warnings
IsSourceRun files segment c (Some n) before now outcome warnings =
    IsGeneratedRun c.settings.damaged n before now outcome warnings

-- words that are no command have nothing to warn of
abbrev pub IsCommandRun : Option Files → ℕ → Option Command → ObservedState → ObservedState
    → Outcome → List ℕ → Type 0
IsCommandRun files segment None before now outcome warnings = warnings ≡ []
IsCommandRun files segment (Some c) before now outcome warnings =
    IsSourceRun files segment c c.generated before now outcome warnings
