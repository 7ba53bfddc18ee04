-- The tokens of a batch, over the calls of their actor.
use Rattle.std.proofs.Common.{◌≢◌, ℕ, List, [], ◌∷◌, ◌++◌, sym, subst, arith}
use Rattle.aio_word.specs.declared.Step.TheVariants as event
use Rattle.aio_word.specs.declared.Known.{Known}
use Rattle.aio_word.specs.declared.WaitRef.{WaitRef}
use Rattle.aio_word.specs.Stands.{IsIn}
use Rattle.aio_word.specs.Tokens.{IsDefined, IsStaged, IsInFlight, IsLocal}
use Rattle.aio_handle.specs.UnchangedTokens.{TokenUnchanged}
use Rattle.aio_handle.specs.LifeWords.{defined_word, staged_word, unclaimed_word}
use Rattle.aio_handle.specs.CallEvents.{EventMade}
use Rattle.aio_handle.proofs.DistinctTokensStay.{distinct-moved, distinct-in}
use Rattle.aio_handle.proofs.DistinctTokensStay.{distinct-push as are-distinct-push}
use Rattle.aio_handle.proofs.TokensStay.{unchanged-then, unchanged-by-execution}
use Rattle.aio_handle.proofs.TokensStay.{unchanged-elsewhere, aims-unchanged}
use Rattle.aio_batch.specs.StagedTokens.{AreStagedTokens}
use Rattle.aio_batch.specs.NextSubmission.{IsNextSubmission}

module _ {R : Type 0} where
  abbrev of : WaitRef × R → WaitRef
  of t = t.0

  pub staged_tokens-kept : (p q : Known) (ts : List (WaitRef × R))
      → ((u : WaitRef × R) → IsIn u ts → TokenUnchanged u.0 p q) → AreStagedTokens p ts
      → AreStagedTokens q ts
  staged_tokens-kept p q ts k = distinct-moved of IsStaged IsStaged p q ts (λ u i. (k u i).staged)

  pub staged-in : (p : Known) (ts : List (WaitRef × R)) (u : WaitRef × R) → AreStagedTokens p ts
      → IsIn u ts
      → IsStaged p u.0
  staged-in = distinct-in of IsStaged

  pub staged_tokens-push : (q : Known) (ts : List (WaitRef × R)) (t : WaitRef × R)
      → AreStagedTokens q ts
      → IsStaged q t.0 → ((u : WaitRef × R) → IsIn u ts → u.0 ≢ t.0)
      → AreStagedTokens q (ts ++ t ∷ [])
  staged_tokens-push = are-distinct-push of IsStaged

  -- the first is submitted and begun, and the others stay
  pub staged_tokens-next : (aim_in : R → List ℕ) (before after : List (WaitRef × R)) (t : WaitRef)
      (p q : Known) (a b c d : ℕ) → AreStagedTokens p before
      → IsNextSubmission aim_in before after t p q a b c d
      → AreStagedTokens q after
  staged_tokens-next aim_in before after t p q a b c d held n =
      let h : AreStagedTokens p (n.token ∷ after) = subst
      (λ (z : List (WaitRef × R)). AreStagedTokens p z) n.first held
      in staged_tokens-kept p q after (λ u i. unchanged-then u.0 p n.between q
      (unchanged-elsewhere u.0 event.Submit t.handle (staged_word t.generation)
      (unclaimed_word t.generation)
      (aim_in n.token.1) p n.between n.event_made
      (subst (λ (z : WaitRef). u.0 ≢ z) (sym n.reference) (h.1 u i)))
      (unchanged-by-execution u.0 [] n.between q a b c d n.begun)) h.2

  -- each token but the one that is submitted stays, and a token that is not staged is another
  pub submission-keeps : (aim_in : R → List ℕ) (before after : List (WaitRef × R)) (t u : WaitRef)
      (p q : Known) (a b c d : ℕ) → AreStagedTokens p before
      → IsNextSubmission aim_in before after t p q a b c d
      → (IsStaged p u → u ≢ t) → TokenUnchanged u p q
  submission-keeps aim_in before after t u p q a b c d held n other =
      let first = (subst (λ (z : List (WaitRef × R)). AreStagedTokens p z) n.first held).0 in
      let stage : IsStaged p t = subst (λ (z : WaitRef). IsStaged p z) (sym n.reference) first in
      let s = stage.since in let s' = stage.until in
      let begun = unchanged-by-execution u [] n.between q a b c d n.begun in
      let kept : u ≢ t → TokenUnchanged u p q = λ ne. unchanged-then u p n.between q
      (unchanged-elsewhere u event.Submit t.handle (staged_word t.generation)
      (unclaimed_word t.generation)
      (aim_in n.token.1) p n.between n.event_made ne) begun in record {
        defined = λ x. (kept (λ e. let y = (subst (λ (z : WaitRef). IsDefined p z) e x).until in
            omega arith)).defined x;
        staged = λ x. (kept (other x)).staged x;
        in_flight = λ x. (kept (λ e. let y = (subst (λ (z : WaitRef). IsInFlight p z) e x).since in
            omega arith)).in_flight x;
        local = λ x. (kept (λ e. let y = (subst (λ (z : WaitRef). IsLocal p z) e x).since in
            omega arith)).local x;
        aims = λ aim i. begun.aims aim
            (aims-unchanged u event.Submit t.handle (staged_word t.generation)
            (unclaimed_word t.generation) (aim_in n.token.1) p n.between n.event_made aim i);
      }

  -- what is defined is not staged
  staging-apart : (ts : List (WaitRef × R)) (t : WaitRef × R) (p : Known) → AreStagedTokens p ts
      → IsDefined p t.0 → (u : WaitRef × R) → IsIn u ts → u.0 ≢ t.0
  staging-apart ts t p h d u i e =
      let s = subst (λ (z : WaitRef). IsStaged p z) e (staged-in p ts u h i) in
      let since = s.since in let until = d.until in omega arith

  pub staged_tokens-beside : (ts : List (WaitRef × R)) (t : WaitRef × R) (aim : List ℕ)
      (p q : Known)
      → AreStagedTokens p ts → IsDefined p t.0
      → EventMade event.Stage t.0.handle (defined_word t.0.generation)
      (staged_word t.0.generation) aim p q
      → AreStagedTokens q ts
  staged_tokens-beside ts t aim p q h d m = staged_tokens-kept p q ts
      (λ u i. unchanged-elsewhere u.0 event.Stage t.0.handle
      (defined_word t.0.generation) (staged_word t.0.generation) aim p q m
      (staging-apart ts t p h d u i)) h

  pub staged_tokens-staging : (ts : List (WaitRef × R)) (t : WaitRef × R) (aim : List ℕ)
      (p q : Known)
      → AreStagedTokens p ts → IsDefined p t.0
      → EventMade event.Stage t.0.handle (defined_word t.0.generation)
      (staged_word t.0.generation) aim p q
      → IsStaged q t.0 → AreStagedTokens q (ts ++ t ∷ [])
  staged_tokens-staging ts t aim p q h d m new =
      staged_tokens-push q ts t (staged_tokens-beside ts t aim p q h d m) new
      (staging-apart ts t p h d)
