use Rattle.std.proofs.Common.{◌≡◌, ℕ, rules, refl, sym, ap, subst, ◌∙◌}
use Rattle.std.specs.Prelude.{IfSome}
use Rattle.page_check.specs.PageBytes.{IsPage}
use Rattle.page_check.specs.IsAnswer.{IfPage, Next as Said}
use Rattle.aio_handle.specs.ContractViews.{ActorView}
use Rattle.read_stream.specs.declared.stream.ReadStream.{ReadStream}
use Rattle.read_stream.specs.declared.at_hand.AtHand.{AtHand}
use Rattle.read_stream.specs.AtHand.{ending_at_hand}
use Rattle.stream_answer.specs.StreamAnswers.{synchronous_answer}
use Rattle.read_stream.specs.StreamState.{StreamAnswered, answer_at_hand, stream_view}
use Rattle.read_stream.specs.StreamViews.{StreamView, IsStreamAnswer, stream_after}
use Rattle.read_stream.proofs.CallersView.{answer_seen, as_left, ending_again}
use Rattle.read_stream.proofs.UnreadCauses.{synchronous}
use Rattle.read_stream.proofs.stream.ReadStream.next.Goals as goal

pub returns : goal.returns
returns g c =
    let P : Type 0 = g.row.P.Denot in
    let State : Type 0 = ReadStream g.row.W.Denot g.row.S.Denot P in
    let view : State → StreamView P = λ s. stream_view g.S.BlockSource.left s in
    let s : State = c.args.self.now in
    let m : State = c.note_actor.new.self in
    let n : State = c.advance.new.self in
    let actor : ActorView = c.advance.new.context.actor.now in
    let x : Said P = answer_at_hand n in
    let y : Said P = synchronous_answer s.scope.relation c.answer.result in
    let noted = c.note_actor.ensures.noted in
    let after : view n ≡ stream_after (view s) actor x =
    c.advance.ensures.view ∙ ap (λ (z : State). stream_after (view z) actor x) noted.2 in
    let answered : y ≡ x =
    ap (λ (z : ℕ). synchronous_answer z c.answer.result)
    (sym (ap (λ (z : StreamView P). z.relation) after)) ∙ c.answer.ensures.answer in
    let seen : IsStreamAnswer g.W.World.told (view s) actor x =
    answer_seen g.S.BlockSource.left g.W.World s m
    noted.0 actor x noted.2 c.note_actor.ensures.is_open
    (c.advance.ensures.answer (subst (λ (z : Said P). IfPage z IsPage) c.answer.ensures.answer
    c.answer.ensures.page)) in
    let found : (now : ActorView) → now ≡ actor → IsStreamAnswer g.W.World.told (view s) now y =
    λ now last. subst (λ (z : ActorView). IsStreamAnswer g.W.World.told (view s) z y) (sym last)
    (subst (λ (z : Said P). IsStreamAnswer g.W.World.told (view s) actor z) (sym answered) seen) in
    let follows : (now : ActorView) → now ≡ actor
    → StreamAnswered g.S.BlockSource.left g.W.World s n
    now y =
    λ now last. record {
      view = after ∙ (ap (λ (z : ActorView). stream_after (view s) z x) (sym last)
          ∙ ap (λ (z : Said P). stream_after (view s) now z) (sym answered));
      open_for = record {
        is_open = c.advance.ensures.is_open;
        as_left = as_left n.actor_is.value now
            (ap (λ (z : StreamView P). z.actor_is) after ∙ sym last);
      };
    } in (
      (refl, (λ _. tt), follows _ (search rules)),
      record {
        advanced = search rules;
        answer = found _ (search rules);
        complete = λ none. synchronous g.W.World.told (view s) _ y none (found _ (search rules));
        answer_repeated = ending_again s.at_hand n y answered
            (subst (λ (z : AtHand g.row.W.Denot). IfSome (ending_at_hand z) (λ e. n.at_hand ≡ z))
            (ap (λ (z : State). z.at_hand) noted.2) c.advance.ensures.answer_repeated);
        after = tt;
      },
    )
