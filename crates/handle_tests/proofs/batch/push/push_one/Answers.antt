use Rattle.std.proofs.Common.{◌≡◌, List, [], ◌∷◌, ◌++◌, sym, ap, ◌∙◌, subst}
use Rattle.aio_word.specs.declared.Known.{Known}
use Rattle.aio_word.specs.declared.Step.TheVariants as event
use Rattle.aio_word.specs.declared.WaitRef.{WaitRef}
use Rattle.aio_word.specs.Tokens.{IsStaged}
use Rattle.aio_handle.specs.LifeWords.{idle_word, handed_out_word}
use Rattle.aio_fixtures.specs.declared.empty_io.EmptyIo.{EmptyIo}
use Rattle.aio_batch.specs.StagedTokens.{AreStagedTokens}
use Rattle.handle_tests.proofs.batch.push.push_one.Goals as goal

pub returns-in-Ok-push-clause-tokens : goal.returns-in-Ok-push-clause-tokens
returns-in-Ok-push-clause-tokens g c =
    let p : Known = c.args.actor.now.known in
    let q : Known = c.acquire.new.actor.known in
    let r : Known = c.define-token.new.actor.known in
    let s : Known = c.stage-token.new.actor.known in
    let t : WaitRef = c.in-Ok.token in
    let batch : List (WaitRef × EmptyIo) = c.args.batch.now in
    let stays = c.batches_are_kept.ensures batch in
    let out = stays p q (λ u i. c.events_keep_other_tokens.ensures.unused u.0 event.HandOut t.handle
    (idle_word t.generation) (handed_out_word t.generation) [] p q c.in-Ok.ensures.event (λ x. x))
    c.requires.tokens in
    let bound = stays q r (λ u i. c.define_keeps_tokens.ensures u.0 t.handle t.generation [] q r
    c.has_seen_its_marks.ensures c.define-token.ensures.event) out in
    let same : c.stage-token.result ≡ c.define-token.result = c.stage-token.ensures.token.0 in
    let pushed = c.what_is_staged_may_be_pushed.ensures.pushed batch c.define-token.result [] r s
    bound c.define-token.ensures.token.2 c.stage-token.ensures.event
    (subst (λ (z : WaitRef × EmptyIo). IsStaged s z.0) same c.stage-token.ensures.token.1) in
    subst (λ (z : List (WaitRef × EmptyIo)). AreStagedTokens s z)
    (ap (λ (z : WaitRef × EmptyIo). batch ++ z ∷ []) (sym same) ∙ sym c.in-Ok-push.ensures.ok.1) pushed

pub returns-in-Err-clause-tokens : goal.returns-in-Err-clause-tokens
returns-in-Err-clause-tokens g c =
    let p : Known = c.args.actor.now.known in
    let q : Known = c.acquire.new.actor.known in
    let r : Known = c.define-token.new.actor.known in
    let s : Known = c.stage-token.new.actor.known in
    let t : WaitRef = c.in-Ok.token in
    let batch : List (WaitRef × EmptyIo) = c.args.batch.now in
    let stays = c.batches_are_kept.ensures batch in
    let out = stays p q (λ u i. c.events_keep_other_tokens.ensures.unused u.0 event.HandOut t.handle
    (idle_word t.generation) (handed_out_word t.generation) [] p q c.in-Ok.ensures.event (λ x. x))
    c.requires.tokens in
    let bound = stays q r (λ u i. c.define_keeps_tokens.ensures u.0 t.handle t.generation [] q r
    c.has_seen_its_marks.ensures c.define-token.ensures.event) out in
    subst (λ (z : List (WaitRef × EmptyIo)). AreStagedTokens s z) (sym c.in-Err.ensures.full.2)
    (c.what_is_staged_may_be_pushed.ensures.others batch c.define-token.result [] r s bound
    c.define-token.ensures.token.2 c.stage-token.ensures.event)
