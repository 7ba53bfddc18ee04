use Rattle.std.proofs.Common.{◌≡◌, ◌+◌, ◌<◌, [], true, get_or, length, sym, ap, ◌∙◌, arith}
use Rattle.std.proofs.lemmas.List.{get_or_default}
use Rattle.read_callbacks.specs.Chain.{is_bad}
use Rattle.read_callbacks.proofs.BlocksOfPages.{first_bad-found, first_bad-absent}
use Rattle.read_callbacks.proofs.bad_pages.first_bad_page.Goals as goal

pub returns-then-is_bad_page-clause-value : goal.returns-then-is_bad_page-clause-value
returns-then-is_bad_page-clause-value c =
    let sums = c.args.checksums in
    let from = c.args.first in
    let pages = c.args.pages.now in
    let i = c.loop-index.index in
    let page = c.index-pages-index.result in
    let low : i < length pages = omega arith in
    let same : page ≡ get_or pages i [] =
    c.index-pages-index.is ∙ get_or_default pages i page [] low in
    let bad : is_bad sums (from + i) page ≡ true = sym c.is_bad_page.ensures ∙ c.if-is_bad_page.true in
    let here : is_bad sums (from + i) (get_or pages i []) ≡ true =
    sym (ap (is_bad sums (from + i)) same) ∙ bad in
    sym (first_bad-found sums from pages i low c.loop-index.invariant here)

pub returns-clause-value : goal.returns-clause-value
returns-clause-value c =
    sym (first_bad-absent c.args.checksums c.args.first c.args.pages.now
    (λ k low. c.loop-index.invariant k (omega arith)))
