use Rattle.std.proofs.Common.{refl}
use Rattle.method_tests.proofs.ring.rings.two_backends.Goals as goal

pub close_with_two-requires-clause-no_owner_tokens : goal.close_with_two-requires-clause-no_owner_tokens
close_with_two-requires-clause-no_owner_tokens g c κs within = c.if-not-four_and_one.ensures.no_owner_tokens refl
