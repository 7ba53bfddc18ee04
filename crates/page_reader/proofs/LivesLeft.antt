-- How many lives the handles of a backend have left.
use Rattle.std.proofs.Common.{◌≡◌, ℕ, ◌+◌, ◌<◌, ◌≤◌, sym, ap, ◌∙◌, subst, arith}
use Rattle.aio_word.specs.declared.Config.{Config}
use Rattle.aio_word.specs.declared.Known.{Known}
use Rattle.aio_word.specs.Events.{lives_ended, handle_count, owner}
use Rattle.aio_handle.specs.FreeHandles.{IsRoom}

-- after so many lives of each
pub lives_after : (p q : Known) (room left most : ℕ) → q.number ≡ p.number → q.config ≡ p.config
    → p.number < p.config.backends → IsRoom p.config p room → IsRoom q.config q left
    → ((h : ℕ) → lives_ended h q.marks ≤ lives_ended h p.marks + most) → room ≤ left + most
lives_after p q room left most number config backend was now lived =
    let backends = ap (λ (c : Config). c.backends) config in
    let (h, below, own, is) = now.exact (omega arith) in
    let first = was.for_each h (subst (λ (c : Config). h < handle_count c) config below)
    (sym number ∙ (own ∙ ap (λ (c : Config). owner c h) config)) in
    let start = ap (λ (c : Config). c.start) config in
    let more = lived h in
    omega arith
