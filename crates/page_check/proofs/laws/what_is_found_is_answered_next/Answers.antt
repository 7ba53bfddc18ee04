use Rattle.page_check.proofs.NextAnswer.{next-page, next-invalid, next-past-end, next-end}
use Rattle.page_check.proofs.laws.what_is_found_is_answered_next.Goals as goal

pub returns-clause-page : goal.returns-clause-page
returns-clause-page g c =
    λ found es k e shown here far page valid bytes is.
    let next = next-page g.M.MayBeUnread.may es k e here found shown far page valid is in
    (next.0 bytes, next.1)

pub returns-clause-invalid : goal.returns-clause-invalid
returns-clause-invalid g c =
    λ found es k e here. next-invalid g.M.MayBeUnread.may es k e here found

pub returns-clause-past_end : goal.returns-clause-past_end
returns-clause-past_end g c =
    λ found es k e here. next-past-end g.M.MayBeUnread.may es k e here found

pub returns-clause-end : goal.returns-clause-end
returns-clause-end g c = λ found es k. next-end g.M.MayBeUnread.may es k found
