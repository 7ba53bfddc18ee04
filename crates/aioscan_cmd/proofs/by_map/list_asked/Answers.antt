use Rattle.std.proofs.Common.{rules, arith, [], ◌∷◌, ℕ, List, ap, sym, ◌∙◌, subst}
use Rattle.std.specs.Option.{option_map}
use Rattle.std.specs.Prelude.{Some, slice_index_or}
use Rattle.command_line.specs.Command.{options_of_settings}
use Rattle.request_list.specs.RemainingRequests.{map_page_count, resolved_request_parts}
use Rattle.request_list.specs.RemainingRequests.{resolved_settings}
use Rattle.run_report.specs.Output.{IsOutput, command_format}
use Rattle.request_list.specs.RequestList.{block_range}
use Rattle.command_line.specs.Words.{map_option_view}
use Rattle.run_report.specs.declared.report.Outcome.{Outcome}
use Rattle.aioscan_cmd.proofs.MapCommandOutput.{all_asked, map_added, map_followed, map_part}
use Rattle.aioscan_cmd.proofs.MapCommandOutput.{map_stopped, without_map}
use Rattle.aioscan_cmd.proofs.MapCommandOutput.{as_many, asks_for_map, pages_asked, unread_out}
use Rattle.aioscan_cmd.proofs.MapPagesThenBlocks.{format_with_map}
use Rattle.lister.proofs.JobTextOutput.{not_write}
use Rattle.run_report.proofs.OutputsAppend.{lists_nothing}
use Rattle.request_list.proofs.MapPageCount.{all_of_zero, has_two}
use Rattle.run_report.proofs.ErrorTextsAppend.{tells_same, warns_also, warns_none, warns_then}
use Rattle.lister.proofs.JobSumsAdd.{ended_done}
use Rattle.aioscan_cmd.proofs.by_map.list_asked.Goals as goal

pub returns-in-None-clause-listed : goal.returns-in-None-clause-listed
returns-in-None-clause-listed g c =
    let none = sym c.map.ensures.map ∙ ap (λ o. option_map map_option_view o) c.in-None.is in (
      λ _. [],
      warns_also _ _ _ _ (λ w lists. without_map c.args.asked none g.W.World.told (λ _. []) _ _ _ _ w
          lists) c.list_jobs.ensures.lists,
      omega (
        arith,
        c.list_jobs.ensures.results_bound,
        as_many c.args.asked none g.W.World.told (λ _. []),
      ),
    )

pub map_pages-requires-clause-map : goal.map_pages-requires-clause-map
map_pages-requires-clause-map g c =
    (_, asks_for_map c.args.asked _ _ c.in-Some.is c.map.ensures.map c.map.ensures.is)

pub map-ending-requires-clause-may : goal.map-ending-requires-clause-may
map-ending-requires-clause-may g c κs within =
    let map = asks_for_map c.args.asked _ _ c.in-Some.is c.map.ensures.map c.map.ensures.is in
    record {
      scan = c.requires.scan;
      relation_in = omega (
        arith,
        has_two c.args.asked map.map map.of.file c.requires.asked map.of.one_file map.given,
        c.requires.world,
      );
      none = search rules;
      room = omega (arith, c.requires.room);
    }

pub returns-in_default-clause-listed : goal.returns-in_default-clause-listed
returns-in_default-clause-listed g c = (
  λ _. [],
  warns_none _ _ (record {
    lists = lists_nothing (command_format c.args.asked.command.now) g.W.World.told
        (resolved_request_parts c.args.asked g.W.World.told (λ _. [])) _;
    sums_are = λ none. absurd (
        let given = (asks_for_map c.args.asked _ _ c.in-Some.is c.map.ensures.map
        c.map.ensures.is).given in cc);
  }),
  omega arith,
)

pub returns-in-Done-clause-listed : goal.returns-in-Done-clause-listed
returns-in-Done-clause-listed g c =
    let by = asks_for_map c.args.asked _ _ c.in-Some.is c.map.ensures.map c.map.ensures.is in
    let told = g.W.World.told in
    let read = c.map-ending.ensures.map_read.read in
    let found = c.map-ending.new.map in
    let given : ℕ → List ℕ = λ b. slice_index_or found.added b [] in
    let count = ap (λ m. m.pages) c.in-Ok.ensures ∙ c.map_pages.ensures.pages in
    let some = c.requires.scan.some in
    let ended = ended_done 1 c.map-ending.result (sym c.outcome_of.ensures ∙ c.in-Done.is) in
    let bs = c.args.scan.now.backends.items in
    let cs = c.map-ending.new.self.backends.items in
    let known = map_added _ _ told bs cs _ _ found c.map-ending.new.warnings.items
    c.map-ending.result some c.requires.options count read ended in
    let zero = all_of_zero c.args.asked by.of.file by.of.one_file in
    let all = all_asked c.args.asked by.map by.given told given _ found.added by.skip_is
    known in (
      given,
      warns_then _ _ _ _ _ _
          (λ v w first second. map_followed c.args.asked by.map by.given told given _
          found.added by.skip_is known _ _ _ _ _ v w (sym c.outcome_of.ensures ∙ c.in-Done.is) zero
          first second)
          (record {
            warnings = c.map-ending.new.warnings.items;
            tells = tells_same _ _ _ _ (search rules) c.write_warnings-line.ensures;
            warnings_hold = map_part _ _ told bs cs _ _ found c.map-ending.new.warnings.items
                c.map-ending.result some c.requires.options count read by.map _;
          })
          c.list_jobs-in-Done.ensures.lists,
      (let first = c.map-ending.ensures.map_read.results_bound in
          let second = c.list_jobs-in-Done.ensures.results_bound in omega arith),
    )

pub returns : goal.returns
returns g c =
    let by = asks_for_map c.args.asked _ _ c.in-Some.is c.map.ensures.map c.map.ensures.is in
    let told = g.W.World.told in
    let read = c.map-ending.ensures.map_read.read in
    let found = c.map-ending.new.map in
    let given : ℕ → List ℕ = λ b. slice_index_or found.added b [] in
    let count = ap (λ m. m.pages) c.in-Ok.ensures ∙ c.map_pages.ensures.pages in
    let some = c.requires.scan.some in
    let bs = c.args.scan.now.backends.items in
    let cs = c.map-ending.new.self.backends.items in
    let few = pages_asked c.args.asked by.map by.given told given in
    record {
      scan = c.map-ending.ensures.map_read.scan;
      same = c.map-ending.ensures.map_read.same;
      listed = (
        given,
        record {
          warnings = c.map-ending.new.warnings.items;
          tells = tells_same _ _ _ _ (search rules) c.write_warnings-line.ensures;
          warnings_hold = map_stopped c.args.asked by.map by.given told given _ _ _ _
              c.in_default-outcome_of.not-Done
              (subst (λ (o : Outcome). IsOutput
              (format_with_map (options_of_settings (resolved_settings c.args.asked))
              (Some by.map)) told (block_range 1 0 (map_page_count c.args.asked) ∷ [])
              (g.O.Sink.written c.args.out.now) (g.O.Sink.written c.args.out.now) o
              c.map-ending.new.warnings.items) (sym c.outcome_of.ensures)
              (map_part _ _ told bs cs _ _ found c.map-ending.new.warnings.items
              c.map-ending.result some c.requires.options count read by.map _));
        },
        (let first = c.map-ending.ensures.map_read.results_bound in omega arith),
      );
      writes = record {
        later = omega arith;
        cannot_write = λ is.
            absurd (not_write 1 c.map-ending.result (sym c.outcome_of.ensures ∙ is));
      };
      unread = λ r b is.
          (let one =
          unread_out 1 c.map-ending.result c.outcome_of.result r b c.outcome_of.ensures is in
          let raised = c.map-ending.ensures.map_read.unread in omega arith);
    }
