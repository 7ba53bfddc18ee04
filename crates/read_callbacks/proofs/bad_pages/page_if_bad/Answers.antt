use Rattle.std.proofs.Common.{◌≡◌, ℕ, replicate, ap, sym, ◌∙◌}
use Rattle.page_check.specs.SynchronousAnswer.{zero_page}
use Rattle.read_callbacks.proofs.BadPagesMarked.{written_over}
use Rattle.read_callbacks.proofs.bad_pages.page_if_bad.Goals as goal
use Rattle.read_callbacks.proofs.bad_pages.page_if_bad.Goals.{in-Zeroed, in_default}

pub returns-then-matches-clause-page : goal.returns-then-matches-clause-page
returns-then-matches-clause-page c =
    let filled : c.fill.new.self ≡ zero_page =
    c.fill.ensures.after (λ y e. e)
    ∙ ap (λ (n : ℕ). replicate n 0) c.bytes_mut.ensures.size in
    let bad = sym c.is_bad_page-bad.ensures ∙ c.if-bad.true in
    elim c.match-matches.branch [
      | in-Zeroed w ↦
          written_over c.args.mark c.args.checksums c.args.block c.args.page.now c.fill.new.self
          w.in-Zeroed.is bad filled
      | in_default w ↦ absurd (cc)
    ]
