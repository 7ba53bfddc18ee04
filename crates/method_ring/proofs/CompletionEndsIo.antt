-- An I/O whose read was answered ends.
use Rattle.std.proofs.Common.{◌≡◌, ℕ, List, [], ◌∷◌, Option, sym, subst}
use Rattle.page_check.specs.Told.{Told}
use Rattle.aio_word.specs.declared.Class.{Class}
use Rattle.aio_word.specs.declared.Known.{Known}
use Rattle.aio_word.specs.declared.WaitRef.{WaitRef}
use Rattle.aio_word.specs.declared.Kind.TheVariants as kind
use Rattle.aio_word.specs.declared.Step.TheVariants as event
use Rattle.aio_word.specs.Tokens.{AppendsMarks, make_mark}
use Rattle.aio_handle.specs.UnchangedTokens.{ClaimUnchanged}
use Rattle.aio_handle.specs.LifeWords.{claimed_word, executed_word, completed_word}
use Rattle.aio_handle.specs.CallEvents.{EventMade}
use Rattle.aio_handle.proofs.ListsGrow.{appends-then, io-grows, share-grows}
use Rattle.aio_callback.specs.ReadIoView.{ReadIoView, IsCompletedRead, record_aim}
use Rattle.read_callbacks.specs.Finishes.{Finish, FinishesGrew}
use Rattle.aio_callback.specs.Finishes.{all_finishes, record_reference}
use Rattle.method_ring.specs.RingRunner.{ReadCompletedAs}

pub ended-as : (told : Option Told) (t : WaitRef) (aim : List ℕ) (class : Class) (p m q : Known)
    (r : ReadIoView) (before after : Option (List Finish))
    → EventMade (event.Io class) t.handle (claimed_word t.generation)
    (executed_word class t.generation) [] p m
    → EventMade event.Shared t.handle (executed_word r.label.ended t.generation)
    (completed_word r.label.ended t.generation) [] m q
    → r.label.ended ≡ class → record_aim r ≡ aim → record_reference r ≡ t → IsCompletedRead told r
    → FinishesGrew before after (all_finishes r) → ReadCompletedAs told t aim class p q before after
ended-as told t aim class p m q r before after io shared same aimed named done handed = record {
  read_io = r;
  aim_is = aimed;
  reference_is = named;
  class_is = same;
  completed_read = done;
  marks_grow = subst (λ (z : WaitRef). AppendsMarks p q
      (make_mark z (kind.Io r.label.ended) ∷ make_mark z kind.Shared ∷ [])) (sym named)
      (appends-then p m q (make_mark t (kind.Io r.label.ended) ∷ []) (make_mark t kind.Shared ∷ [])
      (subst (λ (z : Class). AppendsMarks p m (make_mark t (kind.Io z) ∷ [])) (sym same)
      (io-grows class t.handle t.generation p m io))
      (share-grows r.label.ended t.handle t.generation m q shared));
  finishes_grow = handed;
}

pub kept-then : (t : WaitRef) (p q r : Known) → ClaimUnchanged t p q → ClaimUnchanged t q r
    → ClaimUnchanged t p r
kept-then t p q r a b = record {
  claimed = λ d. b.claimed (a.claimed d);
  executed = λ class d. b.executed class (a.executed class d);
  aims = λ aim i. b.aims aim (a.aims aim i);
}
