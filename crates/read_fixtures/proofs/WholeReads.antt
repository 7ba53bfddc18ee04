-- A read that is answered whole.
use Rattle.std.proofs.Common.{◌≡◌, ℕ, ◌+◌, ◌<◌, ◌==◌, cond, Bool, true, [], ◌∷◌, refl, sym, ap}
use Rattle.std.proofs.Common.{◌∙◌, subst, arith, Option, Some, None}
use Rattle.std.proofs.lemmas.Bool.Decides.{nat_tests}
use Rattle.page_check.specs.Told.{Told}
use Rattle.aio_word.specs.declared.Class.{Class}
use Rattle.aio_word.specs.declared.Class.TheVariants.{Whole, Short}
use Rattle.aio_word.specs.declared.Step.TheVariants as event
use Rattle.aio_word.specs.declared.Kind.TheVariants as kind
use Rattle.aio_word.specs.declared.WaitRef.{WaitRef}
use Rattle.aio_word.specs.declared.Known.{Known}
use Rattle.aio_word.specs.Tokens.{make_mark}
use Rattle.aio_handle.specs.Execution.{ExecutesAll, last_count}
use Rattle.aio_handle.specs.LifeWords.{claimed_word, executed_word, completed_word}
use Rattle.aio_handle.specs.CallEvents.{EventMade}
use Rattle.aio_handle.proofs.ListsGrow.{claims-completed-one, appends-then, io-grows, share-grows}
use Rattle.read_callbacks.specs.declared.chain.Raw.TheVariants.{Read}
use Rattle.read_callbacks.specs.Chain.{class_of}
use Rattle.aio_callback.specs.ReadIoView.{ReadIoView, HasAnswer}

-- where nothing is told, each answer within the count stands for the pages
pub answered-untold : (w : Option Told) (r s : ReadIoView) (n : ℕ) → None ≡ w
    → s ≡ record r { raw = Some (Read n) } → n ≡ r.count → HasAnswer w s
answered-untold w r s n untold is few = subst (λ (z : Option Told). HasAnswer z s) untold
    (subst (λ (z : ReadIoView). HasAnswer None z) (sym is) (record {
      answer = Read n;
      is = refl;
      told_read = (omega (arith, few), tt);
    }))

pub whole-class : (n : ℕ) → class_of n (Read n) ≡ Whole
whole-class n =
    let same : (n == n) ≡ true = grind (arith, nat_tests) in
    ap (λ (b : Bool). cond b Whole Short) same

-- a read that was answered whole, and shared
pub ended-whole : (t : WaitRef) (p m q : Known) (class l : Class) (reads reads' : ℕ)
    → EventMade (event.Io class) t.handle (claimed_word t.generation)
    (executed_word class t.generation) [] p m
    → EventMade event.Shared t.handle (executed_word l t.generation)
    (completed_word l t.generation) [] m q
    → l ≡ class → class ≡ Whole → (reads' < last_count → reads' ≡ reads + 1)
    → ExecutesAll (make_mark t kind.Claimed ∷ []) p q reads reads' 0 0
ended-whole t p m q class l reads reads' io shared same whole counted = record {
  more = make_mark t (kind.Io Whole) ∷ make_mark t kind.Shared ∷ [];
  grows = appends-then p m q (make_mark t (kind.Io Whole) ∷ []) (make_mark t kind.Shared ∷ [])
      (io-grows Whole t.handle t.generation p m
      (subst (λ (z : Class). EventMade (event.Io z) t.handle (claimed_word t.generation)
      (executed_word z t.generation) [] p m) whole io))
      (share-grows Whole t.handle t.generation m q
      (subst (λ (z : Class). EventMade event.Shared t.handle (executed_word z t.generation)
      (completed_word z t.generation) [] m q) (same ∙ whole) shared));
  claims_completed = claims-completed-one Whole t.handle t.generation;
  counters_follow = record {
    read_each = λ below. let e = counted below in omega arith;
    fault_each =
        λ _. omega arith;
  };
}
