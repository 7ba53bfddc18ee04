use Rattle.page_check.proofs.AnswersInOrder.{answered_next}
use Rattle.page_check.proofs.laws.answers_come_one_by_one.Goals as goal

pub returns-clause-next : goal.returns-clause-next
returns-clause-next g c = λ found. answered_next found g.M.MayBeUnread.may
