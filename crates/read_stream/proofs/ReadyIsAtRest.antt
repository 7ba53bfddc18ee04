-- A stream that is closed.
use Rattle.std.proofs.Common.{◌≡◌, ℕ, List, [], ◌++◌, ap, subst, ⊎_elim}
use Rattle.page_check.specs.declared.world.World.{Ghosts as WorldGhosts}
use Rattle.aio_word.specs.declared.Known.{Known}
use Rattle.aio_word.specs.declared.WaitRef.{WaitRef}
use Rattle.aio_word.specs.Stands.{IsIn}
use Rattle.aio_handle.specs.EndStates.{HasNoOwnerTokens}
use Rattle.aio_callback.specs.ReadIoView.{ReadIoView}
use Rattle.read_stream.specs.declared.reads.Reads.{Reads}
use Rattle.read_stream.specs.declared.scope.Scope.{Scope}
use Rattle.read_stream.specs.StreamIos.{Issued, AllRecordsFree, staged_references}

none-in : {A : Type 0} (x : A) (xs ys : List A) → xs ≡ [] → ys ≡ [] → IsIn x (xs ++ ys) → ⊥
none-in {A} x xs ys e f i = subst (λ (z : List A). IsIn x ([] ++ z)) f
    (subst (λ (z : List A). IsIn x (z ++ ys)) e i)

pub at-rest : {W : Type 0} (c : Scope W) (world : WorldGhosts W) (p : Known)
    (s : Reads W) (room total : ℕ) → Issued c world p s → AllRecordsFree room total s
    → HasNoOwnerTokens p
at-rest c world p s room total i r = (
  i.actor.nothing_handed_out,
  (λ t. ⊎_elim (λ over. over)
      (λ j. absurd (none-in t (staged_references s.batch) s.in_flight.items
      (ap (λ (z : List (WaitRef × ReadIoView)). staged_references z) r.batch) r.in_flight j))
      (i.tokens.unreclaimed_ios t)),
)
