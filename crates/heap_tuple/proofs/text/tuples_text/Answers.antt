use Rattle.std.proofs.Common.{◌≡◌}
use Rattle.page_check.specs.Fields.{header_of}
use Rattle.page_check.proofs.ValidPages.{verdict_of-new}
use Rattle.heap_tuple.proofs.Texts.{tuples_text_of-new}
use Rattle.heap_tuple.proofs.LongestRoot.{longest_is_longest}
use Rattle.heap_tuple.proofs.text.tuples_text.Goals as goal

pub returns-then-header-eq0-clause-ok : goal.returns-then-header-eq0-clause-ok
returns-then-header-eq0-clause-ok c =
    let new : (header_of c.args.page.now).upper ≡ 0 = cc in
    rw (tuples_text_of-new c.args.relation c.args.block _ (verdict_of-new _ c.requires new))
    c.page_text.ensures.ok

pub returns-then-header-eq0-clause-longest : goal.returns-then-header-eq0-clause-longest
returns-then-header-eq0-clause-longest c = longest_is_longest _ _

pub returns-in_err-chains-clause-longest : goal.returns-in_err-chains-clause-longest
returns-in_err-chains-clause-longest c = longest_is_longest _ _

pub returns-clause-longest : goal.returns-clause-longest
returns-clause-longest c = longest_is_longest _ _
