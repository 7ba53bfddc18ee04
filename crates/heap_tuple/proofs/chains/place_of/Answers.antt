use Rattle.std.proofs.Common.{arith}
use Rattle.std.proofs.lemmas.Bool.{both_ways}
use Rattle.heap_tuple.proofs.DistinctItems.{has_no_place}
use Rattle.heap_tuple.proofs.chains.place_of.Goals as goal

pub returns : goal.returns
returns c =
    λ here. absurd (both_ways _ (has_no_place _ _
    (λ k below is. c.loop-place.invariant k (omega (arith, below, c.loop-place-test.false)) is))
    here)
