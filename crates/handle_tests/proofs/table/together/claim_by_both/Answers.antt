use Rattle.std.proofs.Common.{◌≡◌, Option, Some, None, subst, sym, ap}
use Rattle.std.specs.Prelude.{IfSome}
use Rattle.aio_word.specs.declared.Known.{Known}
use Rattle.aio_word.specs.declared.WaitRef.{WaitRef}
use Rattle.aio_word.specs.Tokens.{IsClaimed}
use Rattle.handle_tests.proofs.table.together.claim_by_both.Goals as goal

-- two answers that cannot both be a won claim of t
not-both : {R : Type 0} (o o' : Option (WaitRef × R)) (t : WaitRef) (p q : Known)
    (A B A' B' : WaitRef × R → Type 0) → IfSome o (λ x. (x.0 ≡ t) × A x)
    → IfSome o (λ x. IsClaimed p x.0 × B x) → IfSome o' (λ x. (x.0 ≡ t) × A' x)
    → IfSome o' (λ x. IsClaimed q x.0 × B' x) → (IsClaimed p t → IsClaimed q t → ⊥)
    → IfSome o (λ x. IfSome o' (λ y. ⊥))
not-both None o' t p q A B A' B' won token won' token' f = tt
not-both (Some x) None t p q A B A' B' won token won' token' f = tt
not-both (Some x) (Some y) t p q A B A' B' won token won' token' f =
    f (subst (λ (z : WaitRef). IsClaimed p z) won.0 token.0)
    (subst (λ (z : WaitRef). IsClaimed q z) won'.0 token'.0)

pub returns-clause-one_winner : goal.returns-clause-one_winner
returns-clause-one_winner g c = not-both c.claim-first.result c.claim-second.result c.args.reference
    c.claim-first.new.actor.known c.claim-second.new.actor.known _ _ _ _
    c.claim-first.ensures.won c.claim-first.ensures.token c.claim-second.ensures.won
    c.claim-second.ensures.token
    (λ a b. c.one_claim_has_one_winner.ensures.won _ _ _ c.args.reference
    c.stand_together.ensures.together
    (subst (λ (z : Known). IsClaimed z c.args.reference)
    (ap (λ x. x.known) (sym c.stand_together.ensures.same.0)) a)
    (subst (λ (z : Known). IsClaimed z c.args.reference)
    (ap (λ x. x.known) (sym c.stand_together.ensures.same.1)) b))
