use Rattle.heap_scan.proofs.SumsOverPages.{sums_fit, sums_of-append, sums_of-none, sums_of-push}
use Rattle.heap_scan.proofs.laws.sums_come_page_by_page.Goals as goal

pub returns-clause-none : goal.returns-clause-none
returns-clause-none g c = sums_of-none _

pub returns-clause-next : goal.returns-clause-next
returns-clause-next g c = sums_of-push

pub returns-clause-append : goal.returns-clause-append
returns-clause-append g c = sums_of-append

pub returns-clause-fit : goal.returns-clause-fit
returns-clause-fit g c = sums_fit
