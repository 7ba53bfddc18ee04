-- Runs whose listing has ended, with what stands behind it.
use Rattle.std.proofs.Common.{◌≡◌, ◌≢◌, ◌⊎◌, ℕ, ◌≤◌, List, [], ◌++◌, length, take, refl, sym, ap}
use Rattle.std.proofs.Common.{◌∙◌, subst, arith, inl, inr, true, false, append-nil, zero, suc}
use Rattle.std.specs.Prelude.{Option, Some, None, nat_lt, if◌then◌else◌}
use Rattle.std.proofs.lemmas.Bool.{cases_Bool}
use Rattle.std.proofs.lemmas.List.{take_all}
use Rattle.page_check.specs.Told.{Told}
use Rattle.heap_scan.specs.Listing.{listing}
use Rattle.heap_scan.specs.Sums.{sums_of}
use Rattle.heap_scan.specs.Warnings.{warnings_of}
use Rattle.heap_scan.specs.declared.sums.PageSums.{PageSums}
use Rattle.aio_disk.specs.Sink.{SinkGrew, SinkGrewByPrefix}
use Rattle.command_line.specs.Command.{Command, MapOption}
use Rattle.request_list.specs.RequestList.{Part}
use Rattle.run_report.specs.Outcomes.{is_refused, is_output_cut_off}
use Rattle.run_report.specs.Output.{ObservedState, observed_state}
use Rattle.run_report.specs.Run.{SynchronousRun, RunWrites, IsWarned, IsCutInClosing, FitsInOrder}
use Rattle.run_report.specs.Run.{IsConclusion, closing_line, closing_of, fault_outcome}
use Rattle.run_report.specs.Run.{outcome_of_sums, IsCutAt, IsWarnedUpTo, EarlierFit}
use Rattle.run_report.specs.Run.{IsFileRun, listed_run, file_run, IsListedRun}
use Rattle.run_report.specs.Sums.{saturated_sums}
use Rattle.run_report.specs.declared.report.Outcome.{Outcome}
use Rattle.run_report.specs.declared.report.Outcome.TheVariants.{Done, Invalid, Usage, CannotOpen}
use Rattle.run_report.specs.declared.report.Outcome.TheVariants.{NoLength, Unread, CannotWrite}
use Rattle.run_report.specs.declared.report.Outcome.TheVariants.{NoMemory, Missing, TooLong}
use Rattle.run_report.specs.declared.report.Outcome.TheVariants.{FaultsFound}
use Rattle.run_report.proofs.SinkTextsAppend.{SinkGrew-append, SinkGrewByPrefix-append}
use Rattle.run_report.proofs.SinkTextsAppend.{SinkGrew-same, SinkGrewByPrefix-same}
use Rattle.run_report.proofs.CutsInParts.{begun_text}
use Rattle.scan_settings.specs.declared.page_text.PageText.{PageText}
use Rattle.run_report.proofs.SinkTextsAppend.{SinkGrewByPrefix-more}
use Rattle.run_report.proofs.FileRunsOverTold.{writes, is_warned, has_sums}

-- the outcomes of a run that has listed all
abbrev IsOfFaults : Outcome → Type 0
IsOfFaults o = (o ≡ Done) ⊎ (o ≡ FaultsFound)

fault_outcome_by : (map : Option MapOption) (sums : PageSums) → IsOfFaults (fault_outcome map sums)
fault_outcome_by (Some map) sums = inl refl
fault_outcome_by None sums = elim (cases_Bool (nat_lt 0 sums.faults)) [
  | inl some ↦ inr (rw some refl)
  | inr none ↦ inl (rw none refl)
]

-- a run ends as its listing, but where that has listed all: then in one of four ways
pub conclusion_by : (c : Command) (sums : PageSums) (b a : Option (List ℕ)) (ended o : Outcome)
    → IsConclusion c sums ended b a o
    → (o ≡ ended) ⊎ ((ended ≡ Done) × ((o ≡ FaultsFound) ⊎ (is_output_cut_off o ≡ true)))
conclusion_by c sums b a Done o is = elim is [
  | inl whole ↦ elim (fault_outcome_by c.map sums) [
    | inl done ↦ inl (whole.0 ∙ done)
    | inr found ↦ inr (refl, inl (whole.0 ∙ found))
  ]
  | inr cut ↦ inr (refl, inr cut.0)
]
conclusion_by c sums b a _ o is = inl is.0

is_done : (e : Outcome) → (e ≡ Done) ⊎ (e ≢ Done)
is_done Done = inl refl
is_done _ = inr (λ e. cc)

concluded_early : (c : Command) (sums : PageSums) (b a : Option (List ℕ)) (ended o : Outcome)
    → ended ≢ Done → IsConclusion c sums ended b a o → (o ≡ ended) × (a ≡ b)
concluded_early c sums b a Done o early is = absurd (early refl)
concluded_early c sums b a _ o early is = is

-- lengths were taken as in the listing
fits_closed : (limit : ℕ) (lengths : ℕ → ℕ) (relations : ℕ) (o : Outcome)
    → EarlierFit limit lengths relations → is_refused o ≡ false
    → FitsInOrder limit lengths relations o
fits_closed limit lengths relations NoMemory fit is = tt
fits_closed limit lengths relations Usage fit is = tt
fits_closed limit lengths relations CannotOpen fit is = tt
fits_closed limit lengths relations (NoLength r) fit is = absurd (cc)
fits_closed limit lengths relations (TooLong r) fit is = absurd (cc)
fits_closed limit lengths relations _ fit is = fit

pub cut_not_refused : (o : Outcome) → is_output_cut_off o ≡ true → is_refused o ≡ false
cut_not_refused CannotWrite is = refl
cut_not_refused NoMemory is = refl
cut_not_refused _ is = absurd (cc)

pub concluded_fits : (c : Command) (sums : PageSums) (b a : Option (List ℕ)) (ended o : Outcome)
    (limit : ℕ) (lengths : ℕ → ℕ) (relations : ℕ) → IsConclusion c sums ended b a o
    → FitsInOrder limit lengths relations ended → FitsInOrder limit lengths relations o
concluded_fits c sums b a ended o limit lengths relations is fits =
    let F : Outcome → Type 0 = FitsInOrder limit lengths relations in
    elim (conclusion_by c sums b a ended o is) [
      | inl same ↦ subst F (sym same) fits
      | inr closed ↦ elim closed.1 [
        | inl found ↦ subst F (sym found) (subst F closed.0 fits)
        | inr cut ↦ fits_closed limit lengths relations o (subst F closed.0 fits)
            (cut_not_refused o cut)
      ]
    ]

-- what holds of both ways to cut a text holds of each
pub by_cut : (P : Outcome → Type 0) → P CannotWrite → P NoMemory → (o : Outcome)
    → is_output_cut_off o ≡ true → P o
by_cut P cut memory CannotWrite is = cut
by_cut P cut memory NoMemory is = memory
by_cut P cut memory _ is = absurd (cc)

-- a run over contents that are told
module _ (t : Told) (c : Command) (b m a : Option (List ℕ)) where
  abbrev run : SynchronousRun
  run = listed_run t c

  abbrev whole : SynchronousRun
  whole = file_run t c

  abbrev told_sums : PageSums
  told_sums = saturated_sums (sums_of run.format run.pages)

  -- the listing came to its end, and these are its sums
  module _ (sums : PageSums) (done : run.outcome ≡ Done)
      (sums_are : c.map ≡ None → sums ≡ told_sums) where
    same_outcome : (map : Option MapOption) → c.map ≡ map
        → fault_outcome map sums ≡ fault_outcome map told_sums
    same_outcome None none = ap (fault_outcome None) (sums_are none)
    same_outcome (Some by) some = refl

    outcome_is : fault_outcome c.map sums ≡ whole.outcome
    outcome_is = same_outcome c.map refl ∙ ap (outcome_of_sums c told_sums) (sym done)

    same_line : (map : Option MapOption) (text : PageText) → c.map ≡ map
        → closing_line map text sums ≡ closing_line map text told_sums
    same_line None text none = ap (closing_line None text) (sums_are none)
    same_line (Some by) text some = refl

    closing_is : closing_of c sums Done ≡ whole.closing
    closing_is = same_line c.map c.settings.page_text refl ∙ ap (closing_of c told_sums) (sym done)

    module _ (o : Outcome) (is : IsConclusion c sums Done m a o) where
      closed_writes : SinkGrew b m run.text → RunWrites whole b a o
      closed_writes grew =
          let W : Outcome → Type 0 = RunWrites whole b a in elim is [
            | inl all ↦ (
                let text = SinkGrew-append b m a run.text whole.closing grew
                (SinkGrew-same m a _ _ closing_is all.1) in
                elim (fault_outcome_by c.map sums) [
                  | inl none ↦ subst W (sym (all.0 ∙ none)) (sym outcome_is ∙ none, text)
                  | inr found ↦ subst W (sym (all.0 ∙ found)) (sym outcome_is ∙ found, text)
                ])
            | inr cut ↦ (
                let text = SinkGrewByPrefix-append b m a run.text whole.closing grew
                (SinkGrewByPrefix-same m a _ _ closing_is cut.1) in
                by_cut W text text o cut.0)
          ]

      closed_warned : (w : List ℕ) → SinkGrew b m run.text → w ≡ warnings_of run.pages
          → IsWarned whole b a o w
      closed_warned w grew all_warned =
          let W : Outcome → Type 0 = λ x. IsWarned whole b a x w in elim is [
            | inl all ↦ elim (fault_outcome_by c.map sums) [
              | inl none ↦ subst W (sym (all.0 ∙ none)) all_warned
              | inr found ↦ subst W (sym (all.0 ∙ found)) all_warned
            ]
            | inr cut ↦ (
                let begun = begun_text m a whole.closing
                (SinkGrewByPrefix-same m a _ _ closing_is cut.1) in
                let size = length run.pages in
                let behind : IsCutInClosing whole b a size = record {
                  all = refl;
                  begun = begun.0;
                  output_grew = SinkGrew-append b m a run.text (take begun.0 whole.closing) grew
                      begun.1;
                } in
                let warned = all_warned
                ∙ ap warnings_of (sym (take_all size run.pages (omega arith))) in
                by_cut W (record {
                  k = size;
                  pages_within = omega arith;
                  stopped_behind = inr behind;
                  warnings_are = warned;
                }) (record {
                  k = size;
                  pages_within = omega arith;
                  stopped_behind = inr behind;
                  warnings_are = warned;
                }) o cut.0)
          ]

  -- the listing did not come to its end, and nothing stands behind it
  nothing_closes : (e : Outcome) → e ≢ Done → closing_of c told_sums e ≡ []
  nothing_closes Done early = absurd (early refl)
  nothing_closes _ early = refl

  outcome_kept : (e : Outcome) → e ≢ Done → outcome_of_sums c told_sums e ≡ e
  outcome_kept Done early = absurd (early refl)
  outcome_kept _ early = refl

  text_kept : (e : Outcome) → e ≢ Done → run.outcome ≡ e → run.text ≡ whole.text
  text_kept e early is =
      sym (ap (λ (l : List ℕ). run.text ++ l)
      (ap (closing_of c told_sums) is ∙ nothing_closes e early) ∙ append-nil run.text)

  -- with an outcome that the pages have
  kept_by_pages : (e : Outcome) → e ≢ Done → (run.outcome ≡ e) × SinkGrew b m run.text
      → (whole.outcome ≡ e) × SinkGrew b m whole.text
  kept_by_pages e early writes = (
    ap (outcome_of_sums c told_sums) writes.0 ∙ outcome_kept e early,
    SinkGrew-same b m _ _ (text_kept e early writes.0) writes.1,
  )

  unfoldable kept_cut : (r k : ℕ) → IsCutAt run b m r k → IsCutAt whole b m r k
  kept_cut r k cut = record {
    k = cut.k;
    named_block_is = cut.named_block_is;
    pages_within = cut.pages_within;
    output_grew = cut.output_grew;
  }

  kept_writes : (e : Outcome) → e ≢ Done → RunWrites run b m e → RunWrites whole b m e
  kept_writes Done early writes = absurd (early refl)
  kept_writes FaultsFound early writes = kept_by_pages FaultsFound early writes
  kept_writes (Invalid r k) early writes = kept_by_pages (Invalid r k) early writes
  kept_writes (Missing r k) early writes = kept_by_pages (Missing r k) early writes
  kept_writes (Unread r k) early writes = kept_cut r k writes
  kept_writes CannotWrite early writes = SinkGrewByPrefix-more b m run.text whole.closing writes
  kept_writes NoMemory early writes = SinkGrewByPrefix-more b m run.text whole.closing writes
  kept_writes _ early writes = writes

  no_begin : (k : ℕ) → take k (let none : List ℕ = [] in none) ≡ []
  no_begin zero = refl
  no_begin (suc k) = refl

  kept_in_closing : (k : ℕ) → IsCutInClosing run b m k → IsCutInClosing whole b m k
  kept_in_closing k cut = record {
    all = cut.all;
    begun = 0;
    output_grew = SinkGrew-same b m _ _
        (ap (λ (l : List ℕ). listing run.format run.pages ++ l) (no_begin cut.begun)) cut.output_grew;
  }

  kept_up_to : (parts : List Part) (e : Outcome) (w : List ℕ) → IsWarnedUpTo run parts b m e w
      → IsWarnedUpTo whole parts b m e w
  kept_up_to parts e w warned = record {
    k = warned.k;
    pages_within = warned.pages_within;
    stopped_behind = elim warned.stopped_behind [
      | inl part ↦ inl part
      | inr closing ↦ inr (kept_in_closing warned.k closing)
    ];
    warnings_are = warned.warnings_are;
  }

  kept_warned : (e : Outcome) (w : List ℕ) → IsWarned run b m e w → IsWarned whole b m e w
  unfolding kept_cut
  kept_warned Done w warned = warned
  kept_warned FaultsFound w warned = warned
  kept_warned (Invalid r k) w warned = warned
  kept_warned (Missing r k) w warned = warned
  kept_warned (Unread r k) w warned = (kept_cut r k warned.0, warned.1)
  kept_warned CannotWrite w warned = kept_up_to _ CannotWrite w warned
  kept_warned NoMemory w warned = kept_up_to _ NoMemory w warned
  kept_warned _ w warned = warned

-- what a run has written, and what it has warned of
module _ (t : Told) {z : ℕ} (n : ℕ) (c : Command) (b a : ObservedState) (o : Outcome) (w : List ℕ)
    (ran : IsFileRun (Some t) z n c b a o w) where
  abbrev m : Option (List ℕ)
  m = ran.between

  abbrev s : ObservedState
  s = observed_state m a.reads

  abbrev Concludes : Outcome → Option (List ℕ) → Type 0
  Concludes x l = RunWrites (file_run t c) b.written l x × IsWarned (file_run t c) b.written l x w

  by_ended : (e : Outcome) → (e ≡ Done) ⊎ (e ≢ Done)
      → IsListedRun (Some t) z n c b s e ran.sums w → IsConclusion c ran.sums e m a.written o
      → Concludes o a.written
  by_ended e (inl all) listed is =
      let L : Outcome → Type 0 = λ x. IsListedRun (Some t) z n c b s x ran.sums w in
      let K : Outcome → Type 0 = λ x. IsConclusion c ran.sums x m a.written o in
      let whole = subst L all listed in
      let closed = subst K all is in
      let done = writes t n c b s Done ran.sums w whole in
      let sums_are = has_sums t n c b s ran.sums w whole in (
        closed_writes t c b.written m a.written ran.sums done.0 sums_are o closed done.1,
        closed_warned t c b.written m a.written ran.sums done.0 sums_are o closed w done.1
            (is_warned t n c b s Done ran.sums w whole),
      )
  by_ended e (inr early) listed is =
      let same = concluded_early c ran.sums m a.written e o early is in
      let kept : Concludes e m = (
        kept_writes t c b.written m a.written e early (writes t n c b s e ran.sums w listed),
        kept_warned t c b.written m a.written e w (is_warned t n c b s e ran.sums w listed),
      ) in
      subst (λ (x : Outcome). Concludes x a.written) (sym same.0)
      (subst (Concludes e) (sym same.1) kept)

  pub file_writes : RunWrites (file_run t c) b.written a.written o
  file_writes = (by_ended ran.ended (is_done ran.ended) ran.listed ran.concluded).0

  pub file_warned : IsWarned (file_run t c) b.written a.written o w
  file_warned = (by_ended ran.ended (is_done ran.ended) ran.listed ran.concluded).1

  pub file_fits : FitsInOrder (file_run t c).limit (file_run t c).lengths n o
  file_fits =
      concluded_fits c ran.sums m a.written ran.ended o _ _ n ran.concluded ran.listed.in_order

-- a run that was refused has written nothing
refused_first : (c : Command) (sums : PageSums) (b a : Option (List ℕ)) (ended o : Outcome)
    → IsConclusion c sums ended b a o → is_refused o ≡ true → (o ≡ ended) × (a ≡ b)
refused_first c sums b a Done o is refused =
    absurd (elim is [
      | inl all ↦ (elim (fault_outcome_by c.map sums) [
        | inl none ↦ (let x = all.0 ∙ none in let y = rw x at refused in cc)
        | inr found ↦ (let x = all.0 ∙ found in let y = rw x at refused in cc)
      ])
      | inr cut ↦ (let begun = cut_not_refused o cut.0 in cc)
    ])
refused_first c sums b a _ o is refused = is

pub file_untouched : (told : Option Told) {z : ℕ} (n : ℕ) (c : Command) (b a : ObservedState) (o : Outcome)
    (w : List ℕ) → IsFileRun told z n c b a o w → is_refused o ≡ true → a.written ≡ b.written
file_untouched told n c b a o w ran refused =
    let first = refused_first c ran.sums ran.between a.written ran.ended o ran.concluded refused in
    let same = ran.listed.output_same (ap is_refused (sym first.0) ∙ refused) in
    first.1 ∙ ap (λ (x : ObservedState). x.written) same.0
