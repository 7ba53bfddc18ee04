use Rattle.page_check.proofs.AnswersOfLists.{answered_append, answered_more}
use Rattle.page_check.proofs.laws.answers_to_joined_lists.Goals as goal

pub returns-clause-append : goal.returns-clause-append
returns-clause-append g c = λ found. answered_append found g.M.MayBeUnread.may

pub returns-clause-more : goal.returns-clause-more
returns-clause-more g c = λ found. answered_more found g.M.MayBeUnread.may
