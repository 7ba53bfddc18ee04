use Rattle.std.proofs.Common.{ℕ, List, length, arith, ap, subst}
use Rattle.std.specs.Prelude.{Option}
use Rattle.command_line.specs.Command.{IsBelowIfGiven, number_limit}
use Rattle.request_list.specs.RequestList.{Part, blocks_of_parts}
use Rattle.request_list.proofs.RemainingRequestsStep.{remaining_parts-all, few_requests}
use Rattle.request_list.proofs.RemainingRequestsStep.{file_count, resolved_blocks}
use Rattle.request_list.proofs.cutter.Cutter.new.Goals as goal

pub returns-clause-all : goal.returns-clause-all
returns-clause-all g c = remaining_parts-all c.args.asked

pub returns-clause-few : goal.returns-clause-few
returns-clause-few g c =
    let P : Option ℕ → Type 0 = λ o. IsBelowIfGiven o number_limit in
    let few = few_requests c.args.asked c.requires.asked
    (subst P c.last_block.ensures.block c.last_block.ensures.below)
    (omega (arith, file_count c.args.asked _ c.files.ensures.files, c.files.ensures.few)) in
    omega (
      arith,
      few,
      ap (λ (parts : List Part). length (blocks_of_parts parts))
          (remaining_parts-all c.args.asked),
      ap length (resolved_blocks c.args.asked),
    )
