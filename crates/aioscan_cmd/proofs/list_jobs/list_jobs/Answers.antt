use Rattle.std.proofs.Common.{◌∙◌, List, length, rules, refl, sym, ap, arith, subst}
use Rattle.page_check.specs.declared.rules.PageRules.{PageRules}
use Rattle.scan_settings.specs.ListOptions.{ListOptions, list_options}
use Rattle.scan_jobs.specs.BlockFilter.{filter_of_skipping, unskipped_entries}
use Rattle.command_line.specs.Command.{options_of_settings}
use Rattle.request_list.specs.RemainingRequests.{resolved_parts, resolved_settings}
use Rattle.request_list.specs.RequestList.{Part, Request, blocks_of_parts}
use Rattle.run_report.specs.ErrorLine.{AppendsErrorText, error_stream}
use Rattle.lister.specs.ListerState.{unskipped_parts}
use Rattle.heap_scan.specs.Sums.{no_sums}
use Rattle.run_report.specs.Output.{WriteFaultsCounted, format_of_options}
use Rattle.run_report.specs.Sums.{IsSummedOutput}
use Rattle.lister.proofs.ListerJobsCompose.{all_listed, all_written}
use Rattle.lister.proofs.JobSumsAdd.{zero_sums}
use Rattle.request_list.proofs.RemainingRequestsStep.{resolved_blocks}
use Rattle.aioscan_cmd.proofs.list_jobs.list_jobs.Goals as goal

pub returns-clause-lists : goal.returns-clause-lists
returns-clause-lists g c =
    let t = c.run-lister.result in
    let skips = filter_of_skipping c.args.by_map in
    let kept = unskipped_parts skips (resolved_parts c.args.asked) in
    let before = error_stream c.args.line (g.E.Sink.written c.args.err.now)
    (g.E.Sink.faults c.args.err.now) in
    let listed = all_listed g.W.World.told g.O.Sink g.E.Sink kept _ t refl
    (ap (unskipped_parts skips) c.new-blocks.ensures.all)
    (zero_sums c.default.result c.default.ensures) c.run-lister.ensures.ran_source.source_follows
    c.run-lister.ensures.ran_source.over in
    let options_are = ap (λ (r : PageRules). list_options r c.settings-settings.result.page_text)
    c.page_rules.ensures
    ∙ ap options_of_settings c.settings-settings.ensures.settings in
    let Z : ListOptions → Type 0 = λ m.
    IsSummedOutput (format_of_options m) g.W.World.told kept (g.O.Sink.written c.args.out.now)
    (g.O.Sink.written t.out.now) t.outcome no_sums t.sums listed.warnings in
    let P : g.row.O.Denot → Type 0 = λ o.
    IsSummedOutput (format_of_options (options_of_settings (resolved_settings c.args.asked)))
    g.W.World.told kept
    (g.O.Sink.written c.args.out.now) (g.O.Sink.written o) t.outcome no_sums t.sums
    listed.warnings in
    let Q : g.row.E.Denot → Type 0 = λ e.
    AppendsErrorText listed.warnings before
    (error_stream t.line (g.E.Sink.written e) (g.E.Sink.faults e)) in
    let loan = c.run-lister.ensures.ran_source.source_follows.0 in
    let err_loan = c.run-lister.ensures.ran_source.source_follows.1 in record {
      warnings = listed.warnings;
      tells = subst Q (sym (c.err-1.given.1 (sym err_loan) ∙ c.end_borrow-2.ensures)) listed.tells;
      warnings_hold = subst P (sym (c.out-1.given.1 (sym loan) ∙ c.end_borrow.ensures))
          (subst Z options_are listed.warnings_hold);
    }

pub returns-clause-writes : goal.returns-clause-writes
returns-clause-writes g c =
    let P : g.row.O.Denot → Type 0 = λ o.
    WriteFaultsCounted (g.O.Sink.faults c.args.out.now) (g.O.Sink.faults o)
    c.run-lister.result.outcome in
    let loan = c.run-lister.ensures.ran_source.source_follows.0 in
    let skips = filter_of_skipping c.args.by_map in
    subst P (search (rules, loan, c.out-1.given.1))
    (all_written g.W.World.told g.O.Sink g.E.Sink
    (unskipped_parts skips (resolved_parts c.args.asked))
    _ c.run-lister.result refl (ap (unskipped_parts skips) c.new-blocks.ensures.all)
    (zero_sums c.default.result c.default.ensures) c.run-lister.ensures.ran_source.source_follows)

pub returns-clause-results_bound : goal.returns-clause-results_bound
returns-clause-results_bound g c =
    let skips = filter_of_skipping c.args.by_map in
    let followed = c.run-lister.ensures.ran_source in
    omega (
      arith,
      followed.results_bound,
      ap (λ (l : List Part). length (unskipped_entries skips (blocks_of_parts l)))
          c.new-blocks.ensures.all,
      ap (λ (l : List Request). length (unskipped_entries skips l))
          (resolved_blocks c.args.asked),
    )
