use Rattle.std.proofs.Common.{subst}
use Rattle.std.specs.Prelude.{IfOk}
use Rattle.page_check.specs.declared.rules.PageRules.{PageRules}
use Rattle.stream_answer.specs.StreamAnswers.{stream_entries}
use Rattle.page_reader.specs.PagesTaken.{PagesTaken}
use Rattle.page_reader.proofs.for_each.for_each_page.Goals as goal

pub returns-clause-taken : goal.returns-clause-taken
returns-clause-taken g c =
    let holds = g.C.PageConsumer.holds c.for_each_page_with.new.consumer in
    let entries = stream_entries c.args.relation (g.S.BlockSource.left c.args.source) in
    subst (λ (r : PageRules). IfOk c.for_each_page_with.result.0
    (PagesTaken holds r (g.D.Disk.told c.args.disk) entries)) c.new-settings.ensures.rules
    c.for_each_page_with.ensures.taken
