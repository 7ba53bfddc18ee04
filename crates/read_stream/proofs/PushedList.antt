-- Members of lists to which one element was added.
use Rattle.std.proofs.Common.{◌≡◌, List, [], ◌∷◌, ◌++◌, subst, ⊎_elim}
use Rattle.aio_word.specs.Stands.{IsIn}
use Rattle.aio_word.proofs.ReplacedElement.{in-append}

module _ {A : Type 0} (P : A → Type 0) where
  pub each-pushed : (xs : List A) (x : A) → ((y : A) → IsIn y xs → P y) → P x
      → (y : A) → IsIn y (xs ++ x ∷ []) → P y
  each-pushed xs x all new y i = ⊎_elim (λ old. all y old)
      (λ last. ⊎_elim (λ e. subst P e new) (λ none. absurd none) last)
      (in-append y xs (x ∷ []) i)

  pub each-none : (xs : List A) → xs ≡ [] → (y : A) → IsIn y xs → P y
  each-none xs e y i = absurd (subst (λ (z : List A). IsIn y z) e i)
