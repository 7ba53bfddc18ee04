-- Tokens in flight, over what the actor does beside them.
use Rattle.std.proofs.Common.{◌≢◌, List, [], ◌∷◌, ◌++◌, refl, ◌∙◌, subst, inl, inr, ⊎_elim}
use Rattle.aio_word.specs.declared.Known.{Known}
use Rattle.aio_word.specs.declared.WaitRef.{WaitRef}
use Rattle.aio_word.specs.Stands.{IsIn}
use Rattle.aio_word.proofs.ReplacedElement.{in-append}
use Rattle.aio_handle.specs.UnchangedTokens.{TokenUnchanged}
use Rattle.aio_callback.specs.ReadIoView.{record_aim}
use Rattle.read_stream.specs.declared.scope.Scope.{Scope}
use Rattle.read_stream.specs.StreamIos.{IsStreamIo, AllStreamIos}

module _ {W : Type 0} (c : Scope W) where
  stream-io-kept : (p q : Known) (t : WaitRef) → TokenUnchanged t p q → IsStreamIo c p t
      → IsStreamIo c q t
  stream-io-kept p q t k f = record {
    in_flight = k.in_flight f.in_flight;
    has_aim = (f.has_aim.0, f.has_aim.1, k.aims (record_aim f.has_aim.0) f.has_aim.2);
    is_new = f.is_new;
  }

  pub stream-ios-kept : (p q : Known) (ts : List WaitRef)
      → ((t : WaitRef) → IsIn t ts → TokenUnchanged t p q)
      → AllStreamIos c p ts → AllStreamIos c q ts
  stream-ios-kept p q [] k f = tt
  stream-ios-kept p q (t ∷ ts) k f = (
    stream-io-kept p q t (k t (inl refl)) f.0,
    f.1,
    stream-ios-kept p q ts (λ u i. k u (inr i)) f.2,
  )

  pub stream-io-in : (p : Known) (ts : List WaitRef) (t : WaitRef) → AllStreamIos c p ts → IsIn t ts
      → IsStreamIo c p t
  stream-io-in p [] t f i = absurd i
  stream-io-in p (u ∷ ts) t f i = ⊎_elim (λ e. subst (λ (z : WaitRef). IsStreamIo c p z) e f.0)
      (λ j. stream-io-in p ts t f.2 j) i

  -- one more, which is none of these
  pub stream-ios-push : (q : Known) (ts : List WaitRef) (t : WaitRef) → AllStreamIos c q ts
      → IsStreamIo c q t → ((u : WaitRef) → IsIn u ts → t ≢ u) → AllStreamIos c q (ts ++ t ∷ [])
  stream-ios-push q [] t f new apart = (new, (λ u i. absurd i), tt)
  stream-ios-push q (x ∷ ts) t f new apart = (
    f.0,
    (λ u i. ⊎_elim (λ old. f.1 u old)
        (λ last. ⊎_elim (λ e. λ same. apart x (inl refl) (e ∙ same)) (λ none. absurd none) last)
        (in-append u ts (t ∷ []) i)),
    stream-ios-push q ts t f.2 new (λ u i. apart u (inr i)),
  )
  -- what the actor does beside the tokens of the stream
