use Rattle.std.proofs.Common.{arith}
use Rattle.std.proofs.lemmas.Bool.Decides.{nat_tests}
use Rattle.page_faults.specs.Places.{is_outside}
use Rattle.page_faults.proofs.good_items.is_out_of_order.Goals as goal

pub returns-else-pointer-lt-SHORTEST : goal.returns-else-pointer-lt-SHORTEST
unfolding is_outside
returns-else-pointer-lt-SHORTEST c =
    λ none header same within. (grind (arith, nat_tests), grind (arith, nat_tests))
