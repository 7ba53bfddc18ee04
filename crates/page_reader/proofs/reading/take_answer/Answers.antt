use Rattle.std.proofs.Common.{◌<◌, ℕ, List, length, refl, sym, subst}
use Rattle.page_check.specs.declared.rules.PageMark.{PageMark}
use Rattle.page_check.specs.declared.rules.PageMark.TheVariants.{Valid, Zeroed, Damaged}
use Rattle.page_check.specs.IsAnswer.{IfGiven}
use Rattle.page_check.specs.SynchronousAnswer.{Given, IsValidUnlessDamaged}
use Rattle.stream_answer.specs.StreamAnswers.{stream_entry, synchronous_answer}
use Rattle.stream_answer.specs.declared.answer.Next.{Next}
use Rattle.page_reader.specs.PagesTaken.{PagesPredicate, AnswerTaken}
use Rattle.page_reader.proofs.reading.take_answer.Goals as goal

abbrev ValidAnswer : Next (Unit {0}) → Type 0
ValidAnswer answer =
    IfGiven (synchronous_answer 0 answer) (λ g. IsValidUnlessDamaged g.mark g.page)

abbrev RoomAnswer : PagesPredicate → ℕ → Next (Unit {0}) → Type 0
RoomAnswer holds most answer = IfGiven (synchronous_answer 0 answer)
    (λ _. (pages : List (Given (Unit {0}))) × holds pages × (length pages < most))

abbrev given_page : ℕ → ℕ → List ℕ → PageMark → Given (Unit {0})
given_page relation block page mark =
    record { entry = stream_entry relation (block, tt); page = page; mark = mark }

pub take_page-requires-clause-valid : goal.take_page-requires-clause-valid
take_page-requires-clause-valid g c = subst ValidAnswer c.in-Page.is (c.requires.valid 0)

pub take_page-requires-in-Zeroed-clause-valid : goal.take_page-requires-in-Zeroed-clause-valid
take_page-requires-in-Zeroed-clause-valid g c =
    subst ValidAnswer c.in-Zeroed.is (c.requires.valid 0)

pub take_page-requires-clause-room : goal.take_page-requires-clause-room
take_page-requires-clause-room g c =
    subst (RoomAnswer (g.C.PageConsumer.holds c.args.consumer.now)
    (g.C.PageConsumer.most c.args.consumer.now)) c.in-Page.is (c.requires.room 0)

pub take_page-requires-in-Zeroed-clause-room : goal.take_page-requires-in-Zeroed-clause-room
take_page-requires-in-Zeroed-clause-room g c =
    subst (RoomAnswer (g.C.PageConsumer.holds c.args.consumer.now)
    (g.C.PageConsumer.most c.args.consumer.now)) c.in-Zeroed.is (c.requires.room 0)

pub take_page-requires-in-Damaged-clause-room : goal.take_page-requires-in-Damaged-clause-room
take_page-requires-in-Damaged-clause-room g c =
    subst (RoomAnswer (g.C.PageConsumer.holds c.args.consumer.now)
    (g.C.PageConsumer.most c.args.consumer.now)) c.in-Damaged.is (c.requires.room 0)

pub returns-in-Page-clause-taken : goal.returns-in-Page-clause-taken
returns-in-Page-clause-taken g c relation =
    let given = given_page relation c.in-Page.block c.in-Page.page.now Valid in
    subst (λ (a : Next (Unit {0})). AnswerTaken (g.C.PageConsumer.holds c.args.consumer.now)
    (g.C.PageConsumer.holds c.take_page.new.consumer) (synchronous_answer relation a)
    c.take_page.result) (sym c.in-Page.is) (c.take_page.ensures.taken given refl refl refl)

pub returns-in-Zeroed-clause-taken : goal.returns-in-Zeroed-clause-taken
returns-in-Zeroed-clause-taken g c relation =
    let given = given_page relation c.in-Zeroed.block c.in-Zeroed.page.now Zeroed in
    subst (λ (a : Next (Unit {0})). AnswerTaken (g.C.PageConsumer.holds c.args.consumer.now)
    (g.C.PageConsumer.holds c.take_page-in-Zeroed.new.consumer) (synchronous_answer relation a)
    c.take_page-in-Zeroed.result) (sym c.in-Zeroed.is)
    (c.take_page-in-Zeroed.ensures.taken given refl refl refl)

pub returns-in-Damaged-clause-taken : goal.returns-in-Damaged-clause-taken
returns-in-Damaged-clause-taken g c relation =
    let given = given_page relation c.in-Damaged.block c.in-Damaged.page.now Damaged in
    subst (λ (a : Next (Unit {0})). AnswerTaken (g.C.PageConsumer.holds c.args.consumer.now)
    (g.C.PageConsumer.holds c.take_page-in-Damaged.new.consumer) (synchronous_answer relation a)
    c.take_page-in-Damaged.result) (sym c.in-Damaged.is)
    (c.take_page-in-Damaged.ensures.taken given refl refl refl)
