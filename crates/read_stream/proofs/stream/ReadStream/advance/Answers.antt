use Rattle.std.proofs.Common.{rules, ◌≡◌, ◌+◌, ℕ, List, ap, arith, subst, sym, ◌∙◌}
use Rattle.page_check.specs.IsAnswer.{Next as Said}
use Rattle.aio_handle.specs.ContractViews.{ActorView, IsSameActor}
use Rattle.read_stream.specs.declared.stream.ReadStream.{ReadStream}
use Rattle.read_stream.specs.AtHand.{HasAnswer, lent_count}
use Rattle.read_stream.specs.StreamState.{IsBetweenCalls, answer_at_hand, returned_count}
use Rattle.read_stream.specs.Changes.{IsSameReading, SameStream}
use Rattle.read_stream.proofs.LaterActorKeepsAnswer.{found_kept, next_answer_kept, open_after}
use Rattle.read_stream.proofs.LaterActorKeepsAnswer.{same_view}
use Rattle.read_stream.proofs.ContextAdvancedLaws.{context_advanced_then}
use Rattle.read_stream.proofs.StreamInvariantLaws.{same_reading_refl, same_reading_then}
use Rattle.read_stream.proofs.StreamInvariantLaws.{same_stream_then}
use Rattle.read_stream.proofs.GivenPageIsNextAnswer.{between_answered, ended_answers}
use Rattle.read_stream.proofs.GivenPageIsNextAnswer.{pages_answered}
use Rattle.read_stream.proofs.stream.ReadStream.advance.Goals as goal

pub returns-then-has_ended-clause-answer : goal.returns-then-has_ended-clause-answer
returns-then-has_ended-clause-answer g c =
    let s : ReadStream g.row.W.Denot g.row.S.Denot g.row.P.Denot = c.args.self.now in
    let actor : ActorView = c.args.context.now.actor.now in
    let ended = ended_answers s.at_hand c.if-has_ended.ensures in
    let none = ended.1 in
    let between : IsBetweenCalls g.S.BlockSource.left g.W.World actor.known s =
    subst (λ (z : ActorView). IsBetweenCalls g.S.BlockSource.left g.W.World z.known s)
    (sym c.requires.actor) c.requires.is_open.between in
    λ bytes. next_answer_kept g.S.BlockSource.left g.W.World actor.known s s
    (returned_count g.S.BlockSource.left s + lent_count s.at_hand) (answer_at_hand s)
    (same_reading_refl s) (omega arith)
    (between_answered g.S.BlockSource.left g.W.World actor.known s between ended.0 bytes)

pub returns : goal.returns
returns g c =
    let State : Type 0 = ReadStream g.row.W.Denot g.row.S.Denot g.row.P.Denot in
    let s : State = c.args.self.now in
    let r : State = c.release_page.new.self in
    let l : State = c.look_ahead.new.self in
    let b : State = c.submit.new.self in
    let f : State = c.start_last.new.self in
    let t : State = c.find-at_hand.new.self in
    let n : State = c.put.new.self in
    let actor : ActorView = c.find-at_hand.new.context.actor.now in
    let x : Said g.row.P.Denot = answer_at_hand n in
    let left : g.row.S.Denot → List (ℕ × g.row.P.Denot) = g.S.BlockSource.left in
    let later : SameStream left r t = same_stream_then left r l t c.look_ahead.ensures.same_stream
    (same_stream_then left l b t c.submit.ensures.same_stream
    (same_stream_then left b f t c.start_last.ensures.same_stream
    c.find-at_hand.ensures.same_stream)) in
    let same : IsSameReading s n =
    found_kept s t n c.find-at_hand.result
    (same_reading_then s r t c.release_page.ensures.same later.reading) c.put.ensures in
    let given : returned_count left n ≡ returned_count left s + lent_count s.at_hand =
    ap (λ (z : State). returned_count left z) c.put.ensures
    ∙ (later.given ∙ c.release_page.ensures.given) in
    let between : IsBetweenCalls g.S.BlockSource.left g.W.World actor.known n =
    subst (λ (z : State). IsBetweenCalls g.S.BlockSource.left g.W.World actor.known z)
    (sym c.put.ensures) c.find-at_hand.ensures.between in
    let has : HasAnswer n.at_hand = subst (λ (z : State). HasAnswer z.at_hand)
    (sym c.put.ensures) c.find-at_hand.ensures.has_answer in
    let says = pages_answered g.W.World.told n.scope.rules.checksums n.scope.relation
    n.desk.now.reads.ended.items
    n.desk.now.blocks.queue.items n.at_hand between.right has in
    let context = context_advanced_then c.find-at_hand.ensures.context_advanced
    (context_advanced_then c.start_last.ensures.context_advanced
    (context_advanced_then c.submit.ensures.context_advanced
    c.look_ahead.ensures.context_advanced)) in
    record {
      context_advanced = context;
      answer = λ bytes. next_answer_kept g.S.BlockSource.left g.W.World actor.known s n
          (returned_count left s + lent_count s.at_hand) x same given
          (between_answered g.S.BlockSource.left g.W.World actor.known n between has bytes);
      answer_repeated = search rules;
      view = same_view g.S.BlockSource.left g.W.World s n c.of.result actor x same given says.0
          says.1 c.of.ensures;
      is_open = open_after g.S.BlockSource.left g.W.World s n actor c.of.result same
          (subst (λ (z : ActorView). IsSameActor z actor) c.requires.actor context.advanced.same)
          between c.of.ensures c.requires.is_open;
    }
