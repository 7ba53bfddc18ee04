use Rattle.std.proofs.Common.{◌≡◌, ◌∙◌, ap, arith, refl, subst, inl, inr, [], ℕ, List}
use Rattle.std.specs.Prelude.{Some, IfOk, string_bytes}
use Rattle.aio_disk.specs.Counts.{CountRose}
use Rattle.aio_disk.specs.Shelf.{Files, are_there, shelf_told}
use Rattle.command_line.specs.Command.{command_relations}
use Rattle.run_report.specs.declared.report.Outcome.TheVariants.{NoMemory}
use Rattle.run_report.proofs.GeneratedScans.{all_listed, listed_summary, generated_contents}
use Rattle.run_report.proofs.GeneratedScans.{generated_there, none_to_warn, one_relation}
use Rattle.run_report.proofs.GeneratedRuns.{closed_ends, generated_not_refused, ran_generated}
use Rattle.run_report.proofs.GeneratedRuns.{ran_generated_without_memory}
use Rattle.run_report.proofs.ErrorTextsAppend.{warns_none}
use Rattle.aioscan_cmd.proofs.generated_scan.list_generated.Goals as goal

pub returns-in_default-clause-ran : goal.returns-in_default-clause-ran
returns-in_default-clause-ran g c =
    rw c.without_reads.ensures
    (warns_none _ _ (λ k. ran_generated_without_memory _ c.args.pages _ [] refl))

pub returns-then-is_done-clause-ran : goal.returns-then-is_done-clause-ran
returns-then-is_done-clause-ran g c =
    let generated = c.requires.generated in
    let command = c.args.command.now in
    let told = ap (λ (files : Files). shelf_told (Some files) (command_relations command))
    c.in-Ok.ensures ∙ generated_contents c.args.pages command generated in
    let done = c.is_done.ensures.done c.if-is_done.true in
    let b = g.O.Sink.written c.args.out.now in
    let a = g.O.Sink.written c.write_closing.new.out in
    let ran = c.list_files-end.ensures.ran in
    let one = one_relation c.args.pages command generated in
    let sums = listed_summary c.args.pages command generated _ _ _ _ c.list_files-end.result.outcome
    _ _ told one ran.warnings_hold done in
    let none = none_to_warn c.args.pages command generated _ _ _ _ c.list_files-end.result.outcome _
    _ told one ran.warnings_hold (inl done) in
    let Line : List ℕ → Type 0 = λ line. IfOk c.summary.result (λ text. string_bytes text ≡ line) in
    let ends = closed_ends _ b a c.write_closing.result (c.write_closing.ensures.closed _
    (subst Line sums c.summary.ensures)) in record {
      warnings = ran.warnings;
      tells = ran.tells;
      warnings_hold = λ k. ran_generated command.settings.damaged c.args.pages generated.3 b a k
          c.write_closing.result ran.warnings ends.0 none ends.1;
    }

pub returns-clause-ran : goal.returns-clause-ran
returns-clause-ran g c =
    let generated = c.requires.generated in
    let command = c.args.command.now in
    let told = ap (λ (files : Files). shelf_told (Some files) (command_relations command))
    c.in-Ok.ensures ∙ generated_contents c.args.pages command generated in
    let still : ¬ CountRose 0 0 = λ rose. absurd (omega (arith, rose)) in
    let there = ap (λ (files : Files). are_there files.named (command_relations command))
    c.in-Ok.ensures ∙ generated_there c.args.pages command generated in
    let one = one_relation c.args.pages command generated in
    let ran = c.list_files-end.ensures.ran in
    let ended = all_listed c.args.pages command generated _ _ _ _ c.list_files-end.result.outcome _
    _ told one ran.warnings_hold _ _ _ _ c.list_files-end.ensures.causes c.list_files-end.ensures.words
    (c.list_files-end.ensures.sure there) still still still in
    let none = none_to_warn c.args.pages command generated _ _ _ _ c.list_files-end.result.outcome _
    _ told one ran.warnings_hold ended in
    let memory : c.list_files-end.result.outcome ≡ NoMemory = elim ended [
      | inl done ↦ absurd (c.is_done.ensures.other c.if-is_done.false done)
      | inr no_memory ↦ no_memory
    ] in record {
      warnings = ran.warnings;
      tells = ran.tells;
      warnings_hold = λ k. rw memory
          (ran_generated_without_memory command.settings.damaged c.args.pages _ ran.warnings none);
    }

pub returns-then-is_done-clause-counted : goal.returns-then-is_done-clause-counted
returns-then-is_done-clause-counted g c =
    let counted = c.list_files-end.ensures.counted in
    let ends = closed_ends _ _ _ c.write_closing.result
    (c.write_closing.ensures.closed _ c.summary.ensures) in
    λ s. (record {
      sum = counted.sum;
      reads = refl;
      no_workers = counted.no_workers;
      none = λ is. absurd (
          let begun = generated_not_refused c.write_closing.result ends.0 in cc);
    })
