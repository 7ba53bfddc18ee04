use Rattle.std.proofs.Common.{◌≡◌, ◌+◌, length}
use Rattle.method_tests.proofs.ring.random_rings.plain_order.Given as goal

abbrev pub invariant-loop-turn : goal.invariant-loop-turn
invariant-loop-turn l = length l.left.items + l.turn ≡ length l.fn.numbers.items
