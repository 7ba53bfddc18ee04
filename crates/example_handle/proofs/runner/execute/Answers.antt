use Rattle.std.proofs.Common.{ap, ◌∙◌, arith}
use Rattle.aio_word.specs.declared.Known.{Known}
use Rattle.aio_word.specs.declared.Class.TheVariants.{Whole}
use Rattle.aio_word.specs.declared.Step.TheVariants as event
use Rattle.aio_fixtures.proofs.Lives.{amid, amid-then, amid-looked, over-amid}
use Rattle.example_handle.proofs.runner.execute.Goals as goal

pub returns-in_default : goal.returns-in_default
returns-in_default g c =
    let p : Known = c.args.runner.known in
    let q : Known = c.claim.new.actor.known in
    let same = c.claim.ensures.same in
    let lost = c.in_default.ensures.lost in (
      (same.0 ∙ c.requires.idle.0.0, same.1 ∙ c.requires.idle.0.1),
      (
        ap (λ (x : Known). x.out) lost.1.is ∙ c.requires.idle.1.0,
        over-amid p q c.requires.idle.1.1 (amid-looked _ _ p q lost.1),
      ),
    )

pub returns : goal.returns
returns g c =
    let p : Known = c.args.runner.known in
    let q : Known = c.claim.new.actor.known in
    let r : Known = c.complete_io.new.actor.known in
    let s : Known = c.complete_shared.new.actor.known in
    let claim = c.in-Some.ensures.won.1 in
    let io = c.complete_io.ensures.event in
    let shared = c.complete_shared.ensures.event in
    let one = c.claim.ensures.same in
    let two = c.complete_io.ensures.same in
    let three = c.complete_shared.ensures.same in
    let middle = amid-then p q s (amid event.Claim _ _ _ _ p q claim (omega arith) (omega arith))
    (amid-then q r s (amid (event.Io Whole) _ _ _ _ q r io (omega arith) (omega arith))
    (amid event.Shared _ _ _ _ r s shared (omega arith) (omega arith))) in (
      (
        three.0 ∙ (two.0 ∙ (one.0 ∙ c.requires.idle.0.0)),
        three.1 ∙ (two.1 ∙ (one.1 ∙ c.requires.idle.0.1)),
      ),
      (
        ap (λ (x : Known). x.out) shared.is ∙ (ap (λ (x : Known). x.out) io.is
            ∙ (ap (λ (x : Known). x.out) claim.is ∙ c.requires.idle.1.0)),
        over-amid p s c.requires.idle.1.1 middle,
      ),
    )
