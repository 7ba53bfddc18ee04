use Rattle.std.proofs.Common.{arith}
use Rattle.handle_tests.proofs.batch.keep.submit_two.Goals as goal

pub returns-clause-first : goal.returns-clause-first
returns-clause-first g c =
    let first = c.in_ok-first.ensures.next.in_flight in
    let t = c.in_ok-second.second in
    let u = c.in_ok-first.first in
    let tokens = c.submit_next.ensures.tokens in
    let next = c.in_ok-second.ensures.next in
    let kept = c.submitting_keeps_tokens.ensures _ _ _ t u _ _ _ _ _ _ tokens next
    (λ s. let x = first.since in let y = s.until in absurd (omega arith)) in kept.in_flight first
