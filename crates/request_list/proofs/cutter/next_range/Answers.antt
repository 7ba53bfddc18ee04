use Rattle.std.proofs.Common.{◌+◌, ◌∙◌, ap, arith, sym}
use Rattle.request_list.specs.RemainingRequests.{remaining_parts}
use Rattle.request_list.specs.declared.cutter.JobRange.{JobRange}
use Rattle.request_list.proofs.RemainingRequestsStep.{file_count, remaining_parts-end}
use Rattle.request_list.proofs.RemainingRequestsStep.{remaining_parts-next, remaining_parts-none}
use Rattle.request_list.proofs.cutter.next_range.Goals as goal

pub loop-next-preserved : goal.loop-next-preserved
loop-next-preserved c =
    let count = file_count c.args.asked _ c.files-files.ensures.files in record {
      same = c.loop-next.invariant.same
          ∙ remaining_parts-next c.args.asked c.loop-next.rest c.loop-next.next
          (omega arith) (omega (arith, c.loop-next-test.true))
          ∙ ap (λ (r : JobRange). remaining_parts c.args.asked r (c.loop-next.next + 1))
          (sym c.range_of-rest.ensures.range);
      within = c.range_of-rest.ensures.within;
    }

pub returns-clause-same : goal.returns-clause-same
returns-clause-same c =
    let count = file_count c.args.asked _ c.files-files.ensures.files in
    c.loop-next.invariant.same
    ∙ remaining_parts-end c.args.asked c.loop-next.rest c.loop-next.next _ (omega arith) count

pub returns-clause-none : goal.returns-clause-none
returns-clause-none c = λ none.
    (let count = file_count c.args.asked _ c.files-files.ensures.files in
    remaining_parts-none c.args.asked c.loop-next.rest _ none (omega arith))
