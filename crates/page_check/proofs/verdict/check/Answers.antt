use Rattle.std.proofs.Common.{◌≡◌, true, false, sym}
use Rattle.page_check.specs.Fields.{header_of}
use Rattle.page_check.specs.Verdict.{is_sane, is_all_zero}
use Rattle.page_check.proofs.ValidPages.{all_zero, zero_where_all, zero_not_sane}
use Rattle.page_check.proofs.ValidPages.{zero_excludes_sane, verdict_of-sane, verdict_of-zero}
use Rattle.page_check.proofs.ValidPages.{verdict_of-bad}
use Rattle.page_check.proofs.verdict.check.Goals as goal

pub returns-then-has_sane_header-clause-verdict : goal.returns-then-has_sane_header-clause-verdict
returns-then-has_sane_header-clause-verdict c =
    let sane : is_sane (header_of c.args.page.now) ≡ true = cc in
    sym (verdict_of-sane _ sane)

pub returns-then-has_sane_header-clause-zero : goal.returns-then-has_sane_header-clause-zero
returns-then-has_sane_header-clause-zero c =
    let sane : is_sane (header_of c.args.page.now) ≡ true = cc in
    (λ e. cc, λ zeros. absurd (zero_not_sane _ (zero_where_all _ zeros) sane))

pub returns-then-has_sane_header-clause-exclusive :
    goal.returns-then-has_sane_header-clause-exclusive
returns-then-has_sane_header-clause-exclusive c = zero_excludes_sane _

pub returns-then-is_zero_page-clause-verdict : goal.returns-then-is_zero_page-clause-verdict
returns-then-is_zero_page-clause-verdict c =
    let zeros : is_all_zero c.args.page.now ≡ true = cc in
    sym (verdict_of-zero _ zeros)

pub returns-then-is_zero_page-clause-zero : goal.returns-then-is_zero_page-clause-zero
returns-then-is_zero_page-clause-zero c =
    let zeros : is_all_zero c.args.page.now ≡ true = cc in
    (λ e. all_zero _ zeros, λ each. cc)

pub returns-then-is_zero_page-clause-exclusive : goal.returns-then-is_zero_page-clause-exclusive
returns-then-is_zero_page-clause-exclusive c = zero_excludes_sane _

pub returns-else-is_zero_page-clause-verdict : goal.returns-else-is_zero_page-clause-verdict
returns-else-is_zero_page-clause-verdict c =
    let some : is_all_zero c.args.page.now ≡ false = cc in
    let insane : is_sane (header_of c.args.page.now) ≡ false = cc in
    sym (verdict_of-bad _ some insane)

pub returns-else-is_zero_page-clause-zero : goal.returns-else-is_zero_page-clause-zero
returns-else-is_zero_page-clause-zero c =
    let some : is_all_zero c.args.page.now ≡ false = cc in
    (λ e. cc, λ zeros. (let all = zero_where_all _ zeros in cc))

pub returns-else-is_zero_page-clause-exclusive : goal.returns-else-is_zero_page-clause-exclusive
returns-else-is_zero_page-clause-exclusive c = zero_excludes_sane _
