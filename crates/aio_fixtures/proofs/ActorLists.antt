-- Lists of actors that are at rest.
use Rattle.std.proofs.Common.{◌≡◌, ℕ, ◌+◌, ◌<◌, List, [], ◌∷◌, ◌++◌, refl, sym, ap, ◌∙◌, subst}
use Rattle.std.proofs.Common.{⊎_elim, map, arith, length, get_or, length-append}
use mathlib.Core.Logic.{dite}
use native.Mathlib.Decide.{ℕ_discrete}
use Rattle.aio_word.specs.declared.Known.{Known}
use Rattle.aio_word.specs.Stands.{IsIn}
use Rattle.aio_word.proofs.ReplacedElement.{in-append}
use Rattle.aio_handle.specs.EndStates.{HasNoOwnerTokens}
use Rattle.aio_handle.specs.ContractViews.{TableView, ActorView, IsActorOf, actor_known}
use Rattle.aio_handle.proofs.NewTableMeetsInvariant.{push-old, push-last}
use Rattle.aio_fixtures.specs.Actors.{AreAtRest}

known-push : (xs : List ActorView) (x : ActorView)
    → map actor_known (xs ++ x ∷ []) ≡ map actor_known xs ++ actor_known x ∷ []
known-push [] x = refl
known-push (y ∷ xs) x = ap (λ (z : List Known). actor_known y ∷ z) (known-push xs x)

pub one-more-actor : (t : TableView) (xs ys : List ActorView) (x : ActorView) → ys ≡ xs ++ x ∷ []
    → AreAtRest t xs → IsActorOf t x → HasNoOwnerTokens x.known → AreAtRest t ys
one-more-actor t xs ys x e a of_table rest = subst
    (λ (z : List ActorView). AreAtRest t z) (sym e) record {
      of_table = λ k d lt. dite (ℕ_discrete k (length xs))
          (λ here. subst (λ (z : ℕ). IsActorOf t (get_or (xs ++ x ∷ []) z d)) (sym here)
          (subst (λ (z : ActorView). IsActorOf t z) (sym (push-last xs x d)) of_table))
          (λ ne. let before : k < length xs = omega (arith, length-append xs (x ∷ [])) in
          subst (λ (z : ActorView). IsActorOf t z) (sym (push-old xs x d k before)) (a.of_table k d before));
      no_owner_tokens = λ p i. ⊎_elim (λ old. a.no_owner_tokens p old)
          (λ new. ⊎_elim (λ same. subst (λ (z : Known). HasNoOwnerTokens z) same rest)
          (λ none. absurd none) new)
          (in-append p (map actor_known xs) (actor_known x ∷ [])
          (subst (λ (z : List Known). IsIn p z) (known-push xs x) i));
    }

pub no-actors : (t : TableView) (xs : List ActorView) → xs ≡ [] → AreAtRest t xs
no-actors t xs e = subst (λ (z : List ActorView). AreAtRest t z) (sym e)
    record { of_table = λ k d lt. absurd (omega arith); no_owner_tokens = λ p i. absurd i }
