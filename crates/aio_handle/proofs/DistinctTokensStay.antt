-- Several tokens of one actor: all are kept, one more comes, and the one that goes is another.
use Rattle.std.proofs.Common.{◌≢◌, List, [], ◌∷◌, ◌++◌, refl, sym, ap, ◌∙◌, subst, inl, inr}
use Rattle.std.proofs.Common.{⊎_elim}
use Rattle.aio_word.specs.declared.Known.{Known}
use Rattle.aio_word.specs.declared.WaitRef.{WaitRef}
use Rattle.aio_word.specs.Stands.{IsIn}
use Rattle.aio_word.proofs.ReplacedElement.{in-append, in-right}
use Rattle.aio_handle.specs.TokenLists.{AreDistinctTokens}

module _ {A : Type 0} (reference_of : A → WaitRef) where
  pub distinct-moved : (P Q : Known → WaitRef → Type 0) (p q : Known) (ts : List A)
      → ((t : A) → IsIn t ts → P p (reference_of t) → Q q (reference_of t)) → AreDistinctTokens reference_of P p ts
      → AreDistinctTokens reference_of Q q ts
  distinct-moved P Q p q [] k h = tt
  distinct-moved P Q p q (t ∷ ts) k h = (
    k t (inl refl) h.0,
    h.1,
    distinct-moved P Q p q ts (λ u i. k u (inr i)) h.2,
  )

  pub distinct-in : (P : Known → WaitRef → Type 0) (p : Known) (ts : List A) (t : A)
      → AreDistinctTokens reference_of P p ts → IsIn t ts → P p (reference_of t)
  distinct-in P p [] t h i = absurd i
  distinct-in P p (x ∷ ts) t h i = ⊎_elim (λ e. subst (λ (z : A). P p (reference_of z)) e h.0)
      (λ j. distinct-in P p ts t h.2 j) i

  pub distinct-push : (P : Known → WaitRef → Type 0) (p : Known) (ts : List A) (t : A)
      → AreDistinctTokens reference_of P p ts → P p (reference_of t) → ((u : A) → IsIn u ts → reference_of u ≢ reference_of t)
      → AreDistinctTokens reference_of P p (ts ++ t ∷ [])
  distinct-push P p [] t h new apart = (new, (λ u i. absurd i), tt)
  distinct-push P p (x ∷ ts) t h new apart = (
    h.0,
    (λ u i. ⊎_elim (λ old. h.1 u old)
        (λ last. ⊎_elim (λ e. λ same. apart x (inl refl) (sym same ∙ sym (ap reference_of e)))
        (λ none. absurd none) last) (in-append u ts (t ∷ []) i)),
    distinct-push P p ts t h.2 new (λ u i. apart u (inr i)),
  )

  -- the others are of other incarnations than the one that goes
  pub distinct-apart : (P : Known → WaitRef → Type 0) (p : Known) (front back : List A) (t : A)
      → AreDistinctTokens reference_of P p (front ++ t ∷ back) → (u : A) → IsIn u (front ++ back)
      → reference_of u ≢ reference_of t
  distinct-apart P p [] back t h u i = h.1 u i
  distinct-apart P p (x ∷ front) back t h u i = ⊎_elim
      (λ e. λ same. h.1 t (in-right t front (t ∷ back) (inl refl)) (sym same ∙ sym (ap reference_of e)))
      (λ j. distinct-apart P p front back t h.2 u j) i
