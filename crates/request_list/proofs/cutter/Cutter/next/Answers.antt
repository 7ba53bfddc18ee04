use Rattle.std.proofs.Common.{◌∙◌, arith, sym}
use Rattle.request_list.proofs.RemainingRequestsStep.{remaining_parts-cut}
use Rattle.request_list.proofs.cutter.Cutter.next.Goals as goal

pub returns-clause-some : goal.returns-clause-some
returns-clause-some g c = (
  sym c.self.view_is ∙ c.next_range-file.ensures.same
      ∙ remaining_parts-cut c.self.inside.asked c.next_range-file.result.0
      c.next_range-file.result.1 c.min-count.result c.min-count.ensures (omega arith),
  record {
    relation_in = omega (arith, c.next_range-file.ensures.within.relation_in);
    few = (omega arith, omega arith);
    within = omega arith;
  },
)
