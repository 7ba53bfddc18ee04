use Rattle.std.proofs.Common.{rules, ◌≡◌, [], ◌∷◌, ◌++◌, List, length, ap, ◌∙◌, Some, Ok, Err, Result}
use Rattle.std.specs.Result.{IfOk, result_ok}
use Rattle.aio_word.specs.declared.WaitRef.{WaitRef}
use Rattle.aio_callback.specs.ReadIoView.{ReadIoView, record_aim}
use Rattle.method_tests.proofs.sync.read_four.Goals as goal

-- what holds of each value holds where there is one
at_value : {T E : Type 0} (r : Result T E) (x : T) (Q : Type 0)
    → Some x ≡ result_ok r → IfOk r (λ _. Q) → Q
at_value (Ok y) x Q some holds = holds
at_value (Err e) x Q none holds = cc

pub returns-clause-room : goal.returns-clause-room
returns-clause-room g c =
    let aimed : ReadIoView = c.aim.new.self in
    let staged : WaitRef × ReadIoView = c.stage-token.result in
    let taken : ReadIoView = c.in-Ready.local.1 in
    let next = c.in_ok-token-2.ensures.next in
    let pushed : c.push.new.self ≡ staged ∷ [] =
    (at_value _ _ _ c.in_ok-ok-2.ensures.value c.push.ensures.ok).1
    ∙ ap (λ (ts : List (WaitRef × ReadIoView)). ts ++ staged ∷ []) c.requires.empty in
    let first = next.first in
    let same : next.token ≡ staged = cc in
    let aim : record_aim taken ≡ record_aim aimed = c.in-Ready.ensures.record.1 _ next.aim
    ∙ (ap (λ (z : WaitRef × ReadIoView). record_aim z.1) (same ∙ c.stage-token.ensures.token.0)
    ∙ c.define-token.ensures.token.1) in
    let back : length c.reclaim.result.pages ≡ length taken.pages = search rules in
    let made = at_value _ _ _ c.in_ok-ok.ensures.value c.aim.ensures.ok in
    let room : length aimed.pages ≡ length c.args.io.pages =
    ap (λ (r : ReadIoView). length r.pages) made.1 in
    back ∙ ((c.an_aim_names_the_read.ensures taken aimed aim).room ∙ room)

pub returns-clause-empty : goal.returns-clause-empty
returns-clause-empty g c =
    let staged : WaitRef × ReadIoView = c.stage-token.result in
    let pushed : c.push.new.self ≡ staged ∷ [] =
    (at_value _ _ _ c.in_ok-ok-2.ensures.value c.push.ensures.ok).1
    ∙ ap (λ (ts : List (WaitRef × ReadIoView)). ts ++ staged ∷ []) c.requires.empty in
    let first = c.in_ok-token-2.ensures.next.first in
    let empty : c.submit_next.new.self ≡ [] = cc in
    empty
