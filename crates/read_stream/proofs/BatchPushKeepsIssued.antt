-- Staged tokens that were put into the batch.
use Rattle.std.proofs.Common.{◌≡◌, ◌≢◌, ◌<◌, List, [], ◌∷◌, ◌++◌, refl, sym, ap}
use Rattle.std.proofs.Common.{◌∙◌, arith, subst, inl, inr, ⊎_elim, length-append}
use Rattle.page_check.specs.declared.world.World.{Ghosts as WorldGhosts}
use Rattle.aio_word.specs.declared.Known.{Known}
use Rattle.aio_word.specs.declared.WaitRef.{WaitRef}
use Rattle.aio_word.specs.Stands.{IsIn}
use Rattle.aio_word.specs.Tokens.{IsStaged}
use Rattle.aio_word.proofs.ReplacedElement.{in-append}
use Rattle.aio_batch.specs.StagedTokens.{AreStagedTokens}
use Rattle.aio_callback.specs.ReadIoView.{ReadIoView}
use Rattle.read_stream.specs.declared.reads.Reads.{Reads}
use Rattle.read_stream.specs.declared.scope.Scope.{Scope}
use Rattle.read_stream.specs.StreamIos.{IsStreamRecord, IsNewIncarnation, Issued, IssuedExcept}
use Rattle.read_stream.specs.StreamIos.{staged_references, record_count}
use Rattle.read_stream.proofs.PushedList.{each-pushed}

held-push : (q : Known) (ts : List (WaitRef × ReadIoView)) (t : WaitRef × ReadIoView)
    → AreStagedTokens q ts
    → IsStaged q t.0 → ((u : WaitRef × ReadIoView) → IsIn u ts → u.0 ≢ t.0)
    → AreStagedTokens q (ts ++ t ∷ [])
held-push q [] t h new apart = (new, (λ u i. absurd i), tt)
held-push q (x ∷ ts) t h new apart = (
  h.0,
  (λ u i. ⊎_elim (λ old. h.1 u old)
      (λ last. ⊎_elim (λ e. λ same. apart x (inl refl)
      (sym same ∙ sym (ap (λ (z : WaitRef × ReadIoView). z.0) e)))
      (λ none. absurd none) last) (in-append u ts (t ∷ []) i)),
  held-push q ts t h.2 new (λ u i. apart u (inr i)),
)

pub staged-of : (p : Known) (ys : List (WaitRef × ReadIoView)) (u : WaitRef × ReadIoView)
    → AreStagedTokens p ys
    → IsIn u ys → IsStaged p u.0
staged-of p [] u h j = absurd j
staged-of p (y ∷ ys) u h j = ⊎_elim
    (λ same. subst (λ (z : WaitRef × ReadIoView). IsStaged p z.0) same h.0)
    (λ rest. staged-of p ys u h.2 rest) j

module _ {W : Type 0} (c : Scope W) where
  in-pushed : (x t : WaitRef) (r : ReadIoView) (bs : List (WaitRef × ReadIoView))
      (fs : List WaitRef)
      → IsIn x ((t ∷ []) ++ staged_references bs ++ fs) → IsIn x (staged_references (bs ++ (t, r)
      ∷ []) ++ fs)
  in-pushed x t r [] fs i = i
  in-pushed x t r (b ∷ bs) fs i = ⊎_elim
      (λ e. inr (in-pushed x t r bs fs (inl e)))
      (λ l. ⊎_elim (λ e. inl e) (λ l'. inr (in-pushed x t r bs fs (inr l'))) l) i

  -- a staged token was pushed, and the batch has it
  pub issued-put : (world : WorldGhosts W) (p : Known) (s s' : Reads W)
      (x : WaitRef × ReadIoView) → s' ≡ record s { batch = s.batch ++ x ∷ [] }
      → IsStaged p x.0 → IsStreamRecord c x.1 → IsNewIncarnation c x.0
      → ((u : WaitRef × ReadIoView) → IsIn u s.batch → u.0 ≢ x.0)
      → record_count s < c.total.value → IssuedExcept (x.0 ∷ []) c world p s
      → Issued c world p s'
  issued-put world p s s' x is new aimed fresh apart room k =
      let more = length-append s.batch (x ∷ []) in
      let most = k.within_most in
      rw is (record {
        room = k.room;
        count_within = omega arith;
        within_most = omega arith;
        actor = k.actor;
        records = k.records;
        tokens = record {
          staged_tokens = held-push p s.batch x k.tokens.staged_tokens new apart;
          staged_ios = each-pushed (λ u. IsStreamRecord c u.1 × IsNewIncarnation c u.0) s.batch x
              k.tokens.staged_ios (aimed, fresh);
          stream_ios = k.tokens.stream_ios;
          unreclaimed_ios = λ y. ⊎_elim (λ over. inl over)
              (λ j. inr (in-pushed y x.0 x.1 s.batch s.in_flight.items j))
              (k.tokens.unreclaimed_ios y);
        };
      })
