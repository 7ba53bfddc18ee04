use Rattle.std.proofs.Common.{arith, ap, ◌∙◌, ◌≡◌, List, ℕ}
use Rattle.page_check.specs.Fields.{u16_at, header_of}
use Rattle.page_check.proofs.ValidPages.{lower_of_valid}
use Rattle.page_check.proofs.fields.count.Goals as goal

pub returns-clause-few : goal.returns-clause-few
unfolding header_of
returns-clause-few c valid =
    let lower : c.read_u16.result ≡ u16_at c.args.page.now 12 =
    c.read_u16.ensures ∙ ap (λ (bytes : List ℕ). u16_at bytes 12) c.bytes.ensures.value in
    omega (arith, lower, c.saturating_sub.ensures, lower_of_valid c.args.page.now valid)
