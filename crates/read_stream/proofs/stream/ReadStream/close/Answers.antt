use Rattle.std.proofs.Common.{ap, arith}
use Rattle.aio_word.specs.Events.{lives_ended}
use Rattle.read_stream.specs.declared.stream.ReadStream.{ReadStream}
use Rattle.read_stream.proofs.ReadyIsAtRest.{at-rest}
use Rattle.read_stream.proofs.stream.ReadStream.close.Goals as goal

pub returns-clause-no_owner_tokens : goal.returns-clause-no_owner_tokens
returns-clause-no_owner_tokens g c =
    let rest = at-rest c.note_actor.new.self.scope g.W.World
    c.end-taken_in.new.context.actor.now.known c.end-taken_in.new.self.reads _ _
    c.end-taken_in.ensures.issued c.end-taken_in.ensures.free.0.ready in
    let none = rest.0 in (
      grind (arith, none),
      λ t. (let over = rest.1 t in grind (arith, over)),
    )

pub returns-clause-lives_bound : goal.returns-clause-lives_bound
returns-clause-lives_bound g c = λ h.
    (let l = c.end-taken_in.ensures.issued.actor.lives_bound h in
    let n = c.end-taken_in.ensures.count.0 in
    let was = ap (λ (z : ReadStream g.row.W.Denot g.row.S.Denot g.row.P.Denot).
    lives_ended h z.scope.was.value.known.marks) c.note_actor.ensures.noted.2 in
    grind (arith, l, n, was))
