use Rattle.std.proofs.Common.{◌≡◌, Bool, true, false, sym, ap, ◌∙◌}
use Rattle.page_check.specs.Checksum.{has_checksum, verdict_as}
use Rattle.page_check.proofs.VerifiedPages.{verdict_as-off, verdict_as-has, verdict_as-unsane}
use Rattle.page_check.proofs.VerifiedPages.{verdict_as-lacks}
use Rattle.page_check.proofs.checksum.check_as.Goals as goal

pub returns-then-not-checksums-clause-verdict : goal.returns-then-not-checksums-clause-verdict
returns-then-not-checksums-clause-verdict c =
    let page = c.args.page.now in
    let off : c.args.checksums ≡ false = cc in
    c.check.ensures.verdict ∙ sym (verdict_as-off c.args.block page)
    ∙ ap (λ (b : Bool). verdict_as b c.args.block page) (sym off)

pub returns-then-has_checksum-clause-verdict : goal.returns-then-has_checksum-clause-verdict
returns-then-has_checksum-clause-verdict c =
    let page = c.args.page.now in
    let on : c.args.checksums ≡ true = cc in
    let has : has_checksum c.args.block page ≡ true = cc in
    c.in-Sane.ensures.verdict ∙ sym (verdict_as-has c.args.block page has)
    ∙ ap (λ (b : Bool). verdict_as b c.args.block page) (sym on)

pub returns-else-has_checksum-clause-verdict : goal.returns-else-has_checksum-clause-verdict
returns-else-has_checksum-clause-verdict c =
    let page = c.args.page.now in
    let on : c.args.checksums ≡ true = cc in
    let lacks : has_checksum c.args.block page ≡ false = cc in
    sym (verdict_as-lacks c.args.block page (sym c.in-Sane.ensures.verdict) lacks)
    ∙ ap (λ (b : Bool). verdict_as b c.args.block page) (sym on)

pub returns-in-Zero-clause-verdict : goal.returns-in-Zero-clause-verdict
returns-in-Zero-clause-verdict c =
    let page = c.args.page.now in
    let on : c.args.checksums ≡ true = cc in
    let is = c.in-Zero.ensures.verdict in
    is ∙ sym (verdict_as-unsane c.args.block page (λ sane. absurd (cc)))
    ∙ ap (λ (b : Bool). verdict_as b c.args.block page) (sym on)

pub returns-in-Bad-clause-verdict : goal.returns-in-Bad-clause-verdict
returns-in-Bad-clause-verdict c =
    let page = c.args.page.now in
    let on : c.args.checksums ≡ true = cc in
    let is = c.in-Bad.ensures.verdict in
    is ∙ sym (verdict_as-unsane c.args.block page (λ sane. absurd (cc)))
    ∙ ap (λ (b : Bool). verdict_as b c.args.block page) (sym on)
