use Rattle.std.proofs.Common.{◌∙◌, ℕ, sym, subst}
use Rattle.std.specs.Prelude.{Option, Some, None}
use Rattle.run_report.specs.Output.{observed_state}
use Rattle.run_report.specs.Run.{IsSourceRun, SourceFilesExist}
use Rattle.run_report.specs.Totals.{AreRunNumbers}
use Rattle.run_report.proofs.GeneratedRuns.{generated_causes, generated_not_refused}
use Rattle.run_report.proofs.ConclusionCauses.{concluded_causes, concluded_numbers}
use Rattle.run_report.proofs.ConclusionCauses.{concluded_opened, concluded_order, concluded_words}
use Rattle.aioscan_cmd.proofs.run.run_command.Goals as goal

pub returns-in-None-clause-ran : goal.returns-in-None-clause-ran
returns-in-None-clause-ran g c =
    let command = c.args.command.now in
    let files = sym c.generated.ensures.pages ∙ c.in-None.is in
    let counts = g.S.Shelf.counts in
    let ran = c.list_files-end.ensures.ran in
    let P : Option ℕ → Type 0 = λ m. IsSourceRun (g.S.Shelf.told c.args.shelf.now)
    (g.S.Shelf.segment c.args.shelf.now) command m
    (observed_state (g.O.Sink.written c.args.out.now) (counts c.args.shelf.now).reads)
    (observed_state (g.O.Sink.written c.conclude.new.out) (counts c.list_files-end.new.shelf).reads)
    c.conclude.result ran.warnings in record {
      warnings = ran.warnings;
      tells = ran.tells;
      warnings_hold = subst P (sym files) (record {
        between = g.O.Sink.written c.list_files-end.new.out;
        sums = c.list_files-end.result.sums;
        ended = c.list_files-end.result.outcome;
        listed = ran.warnings_hold;
        concluded = c.conclude.ensures.concluded;
      });
    }

pub returns-in-None-clause-causes : goal.returns-in-None-clause-causes
returns-in-None-clause-causes g c =
    concluded_causes c.args.command.now c.list_files-end.result.sums _ _
    c.list_files-end.result.outcome c.conclude.result c.conclude.ensures.concluded _ _ _ _ _
    c.list_files-end.ensures.causes c.conclude.ensures.later c.conclude.ensures.cannot_write

pub returns-in-None-clause-order : goal.returns-in-None-clause-order
returns-in-None-clause-order g c =
    concluded_order c.args.command.now c.list_files-end.result.sums _ _
    c.list_files-end.result.outcome c.conclude.result c.conclude.ensures.concluded _ _
    c.list_files-end.ensures.order

pub returns-in-None-clause-counted : goal.returns-in-None-clause-counted
returns-in-None-clause-counted g c =
    let files = sym c.generated.ensures.pages ∙ c.in-None.is in
    let counts = g.S.Shelf.counts in
    let P : Option ℕ → Type 0 = λ m. AreRunNumbers m (Some c.args.command.now)
    (counts c.args.shelf.now) (counts c.list_files-end.new.shelf) c.conclude.result
    c.list_files-end.result.numbers in
    subst P (sym files) (concluded_numbers c.args.command.now c.list_files-end.result.sums _ _
    c.list_files-end.result.outcome c.conclude.result c.conclude.ensures.concluded _ _ _ _ _
    c.list_files-end.ensures.counted)

pub returns-in-None-clause-opened : goal.returns-in-None-clause-opened
returns-in-None-clause-opened g c = λ opened.
    (let files = sym c.generated.ensures.pages ∙ c.in-None.is in
    let P : Option ℕ → Type 0 = λ m. SourceFilesExist (g.S.Shelf.told c.args.shelf.now)
    c.args.command.now m in
    subst P (sym files) (c.list_files-end.ensures.opened
    (concluded_opened c.args.command.now c.list_files-end.result.sums _ _
    c.list_files-end.result.outcome c.conclude.result c.conclude.ensures.concluded opened)))

pub returns-in-None-clause-words : goal.returns-in-None-clause-words
returns-in-None-clause-words g c =
    concluded_words c.args.command.now c.list_files-end.result.sums _ _
    c.list_files-end.result.outcome c.conclude.result c.conclude.ensures.concluded
    c.list_files-end.ensures.words

pub returns-in-Some-clause-ran : goal.returns-in-Some-clause-ran
returns-in-Some-clause-ran g c =
    let command = c.args.command.now in
    let generated = sym c.generated.ensures.pages ∙ c.in-Some.is in
    let reads = (g.S.Shelf.counts c.args.shelf.now).reads in
    let ran = c.list_generated.ensures.ran in
    let P : Option ℕ → Type 0 = λ m. IsSourceRun (g.S.Shelf.told c.args.shelf.now)
    (g.S.Shelf.segment c.args.shelf.now) command m
    (observed_state (g.O.Sink.written c.args.out.now) reads)
    (observed_state (g.O.Sink.written c.list_generated.new.out) reads)
    c.list_generated.result.outcome ran.warnings in record {
      warnings = ran.warnings;
      tells = ran.tells;
      warnings_hold = subst P (sym generated) (ran.warnings_hold reads);
    }

pub returns-in-Some-clause-causes : goal.returns-in-Some-clause-causes
returns-in-Some-clause-causes g c =
    let ran = c.list_generated.ensures.ran.warnings_hold 0 in
    generated_causes (g.S.Shelf.counts c.args.shelf.now) _ _
    c.list_generated.result.outcome ran.ends c.list_generated.ensures.writes

pub returns-in-Some-clause-counted : goal.returns-in-Some-clause-counted
returns-in-Some-clause-counted g c =
    let generated = sym c.generated.ensures.pages ∙ c.in-Some.is in
    let counts = g.S.Shelf.counts c.args.shelf.now in
    let P : Option ℕ → Type 0 = λ m. AreRunNumbers m (Some c.args.command.now) counts counts
    c.list_generated.result.outcome c.list_generated.result.numbers in
    subst P (sym generated) (c.list_generated.ensures.counted counts)

pub returns-in-Some-clause-words : goal.returns-in-Some-clause-words
returns-in-Some-clause-words g c =
    let ran = c.list_generated.ensures.ran.warnings_hold 0 in
    let begun = generated_not_refused c.list_generated.result.outcome ran.ends in
    λ is. absurd (let refused = rw is at begun in cc)
