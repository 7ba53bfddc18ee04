-- Which incarnations an actor has not reclaimed, and which it keeps in flight.
use Rattle.std.proofs.Common.{◌≡◌, ◌≢◌, ℕ, ◌+◌, ◌*◌, ◌==◌, ◌&&◌, List, [], ◌∷◌, ◌++◌, sum_by, refl}
use Rattle.std.proofs.Common.{ap, ◌∙◌, subst, arith, None}
use Rattle.std.proofs.lemmas.List.Sums.{sum_by-cons}
use Rattle.aio_word.specs.declared.Class.{Class}
use Rattle.aio_word.specs.declared.Step.TheVariants as event
use Rattle.aio_word.specs.declared.Kind.TheVariants as kind
use Rattle.aio_word.specs.declared.Mark.{Mark}
use Rattle.aio_word.specs.declared.WaitRef.{WaitRef}
use Rattle.aio_word.specs.declared.Word.{Word}
use Rattle.aio_word.specs.declared.Known.{Known}
use Rattle.aio_word.specs.Events.{mark_count, is_mark}
use Rattle.aio_word.specs.Stands.{one_if}
use Rattle.aio_word.specs.Tokens.{IsDefined, IsStaged, IsInFlight, make_mark}
use Rattle.aio_word.proofs.MoreMarksKeep.{mark_count-more}
use Rattle.aio_handle.specs.declared.record.Label.{Label}
use Rattle.aio_handle.specs.EndStates.{AllReclaimed, HasNoOwnerTokens}
use Rattle.aio_handle.specs.Execution.{ExecutesAll}
use Rattle.aio_handle.specs.LifeWords.{taken_word, idle_word}
use Rattle.aio_handle.specs.CallEvents.{EventMade, TakesResult}
use Rattle.aio_handle.proofs.ListsGrow.{same-place}
use Rattle.aio_handle.proofs.TokensStay.{unchanged-by-look, unchanged-elsewhere}
use Rattle.aio_fixtures.specs.Lives.{BeginsLife, EndsLife, KeepsLives, HasUnreclaimed}
use Rattle.aio_fixtures.specs.Lives.{defined_marks}
use Rattle.aio_fixtures.proofs.Lives.{amid, amid-then, amid-looked, ends}

-- what is taken up begins and ends no life
taken-up-amid : (p q : Known) (a b c d : ℕ) → ExecutesAll [] p q a b c d → KeepsLives p q
taken-up-amid p q a b c d k t =
    let none = k.claims_completed.owners t in
    let whole0 : mark_count t kind.Defined q.marks ≡ mark_count t kind.Defined (p.marks ++ k.more) =
    ap (λ (z : List Mark). mark_count t kind.Defined z) k.grows.marks in
    let whole7 : mark_count t kind.Reclaimed q.marks ≡ mark_count t kind.Reclaimed
    (p.marks ++ k.more) =
    ap (λ (z : List Mark). mark_count t kind.Reclaimed z) k.grows.marks in
    let more0 = mark_count-more t 0 p.marks k.more in
    let more7 = mark_count-more t 7 p.marks k.more in
    (omega arith, omega arith)

taken-out-amid : (t : WaitRef) (p q : Known) (l : Label) → TakesResult t p q l → KeepsLives p q
taken-out-amid t p q l k = amid-then p k.between q (amid-looked _ _ p k.between k.word_load)
    (amid event.Local _ _ _ _ k.between q k.event_made (omega arith) (omega arith))

taken-out-out : (t : WaitRef) (p q : Known) (l : Label) → TakesResult t p q l → q.out ≡ p.out
taken-out-out t p q l k =
    ap (λ (x : Known). x.out) k.event_made.is ∙ ap (λ (x : Known). x.out) k.word_load.is

pub rests-with-none : (p : Known) → HasUnreclaimed [] p → HasNoOwnerTokens p
rests-with-none p o = (
  o.out,
  λ t. let x = o.lives t in let none : mark_count t kind.Defined (defined_marks []) ≡ 0 = refl in
      omega arith,
)

pub none-at-rest : (p : Known) → HasNoOwnerTokens p → HasUnreclaimed [] p
none-at-rest p rest = record {
  out = rest.0;
  lives = λ t. let x = rest.1 t in let none : mark_count t kind.Defined (defined_marks [])
      ≡ 0 = refl in omega arith;
}

one-life : (t u : WaitRef) → mark_count t kind.Defined (make_mark u kind.Defined ∷ [])
    ≡ mark_count t kind.Reclaimed (make_mark u kind.Reclaimed ∷ [])
one-life t u =
    let one = sum_by-cons (λ x. one_if (is_mark t.handle (8 * t.generation + 0) x))
    (make_mark u kind.Defined) [] in
    let none : sum_by (λ x. one_if (is_mark t.handle (8 * t.generation + 0) x)) [] ≡ 0 = refl in
    let last = sum_by-cons (λ x. one_if (is_mark t.handle (8 * t.generation + 7) x))
    (make_mark u kind.Reclaimed) [] in
    let none' : sum_by (λ x. one_if (is_mark t.handle (8 * t.generation + 7) x)) [] ≡ 0 = refl in
    let like : one_if ((u.handle == t.handle) && (8 * u.generation + 0 == 8 * t.generation + 0))
    ≡ one_if ((u.handle == t.handle) && (8 * u.generation + 7 == 8 * t.generation + 7)) =
    same-place (u.handle == t.handle) u.generation t.generation 0 7 in omega arith

one-more : (t u : WaitRef) (ts : List WaitRef)
    → mark_count t kind.Defined (defined_marks (u ∷ ts))
    ≡ mark_count t kind.Defined (make_mark u kind.Defined ∷ []) + mark_count t kind.Defined
    (defined_marks ts)
one-more t u ts =
    let f : Mark → ℕ = λ x. one_if (is_mark t.handle (8 * t.generation + 0) x) in
    let both = sum_by-cons f (make_mark u kind.Defined) (defined_marks ts) in
    let one = sum_by-cons f (make_mark u kind.Defined) [] in
    let none : sum_by f [] ≡ 0 = refl in omega arith

-- one more life was begun
pub submitted-unreclaimed : (u : WaitRef) (ts : List WaitRef) (h : ℕ) (w w' : Word) (p q r : Known)
    → EventMade event.HandOut h w w' [] p q → BeginsLife u q r → r.out ≡ None → HasUnreclaimed ts p
    → HasUnreclaimed (u ∷ ts) r
submitted-unreclaimed u ts h w w' p q r m begins out o = record {
  out = out;
  lives = λ t.
      let same0 : mark_count t kind.Defined q.marks ≡ mark_count t kind.Defined p.marks =
      ap (λ (z : Known). mark_count t kind.Defined z.marks) m.is in
      let same7 : mark_count t kind.Reclaimed q.marks ≡ mark_count t kind.Reclaimed p.marks =
      ap (λ (z : Known). mark_count t kind.Reclaimed z.marks) m.is in
      let b0 = (begins t).0 in
      let b7 = (begins t).1 in
      let before = o.lives t in
      let more = one-more t u ts in omega arith;
}

-- a life was ended
ended-unreclaimed : (u : WaitRef) (ts : List WaitRef) (p q : Known) → EndsLife u p q → HasUnreclaimed (u ∷ ts) p
    → HasUnreclaimed ts q
ended-unreclaimed u ts p q e o = record {
  out = e.out ∙ o.out;
  lives = λ t.
      let e0 = (e.lives t).0 in
      let e7 = (e.lives t).1 in
      let before = o.lives t in
      let more = one-more t u ts in
      let one = one-life t u in omega arith;
}

-- the result of u was taken, and its handle taken back
pub reclaimed-unreclaimed : (u v : WaitRef) (ts : List WaitRef) (class : Class) (l : Label) (p q r : Known)
    → TakesResult u p q l → v ≡ u
    → EventMade event.Reclaim v.handle (taken_word class v.generation)
    (idle_word (v.generation + 1)) [] q r
    → HasUnreclaimed (u ∷ ts) p → HasUnreclaimed ts r
reclaimed-unreclaimed u v ts class l p q r k same back o = ended-unreclaimed u ts p r
    (ends u class [] p q r (taken-out-amid u p q l k) (taken-out-out u p q l k)
    (subst (λ (x : WaitRef). EventMade event.Reclaim x.handle (taken_word class x.generation)
    (idle_word (x.generation + 1)) [] q r) same back)) o

-- what was taken up before changes nothing of it
pub taken-up-unreclaimed : (ts : List WaitRef) (p q : Known) (a b c d : ℕ)
    → ExecutesAll [] p q a b c d
    → HasUnreclaimed ts p → HasUnreclaimed ts q
taken-up-unreclaimed ts p q a b c d k o = record {
  out = k.grows.out ∙ o.out;
  lives = λ t.
      let same = taken-up-amid p q a b c d k t in
      let same0 = same.0 in
      let same7 = same.1 in
      let before = o.lives t in omega arith;
}

-- an incarnation in flight is not one that was just defined or staged
pub not-defined : (t u : WaitRef) (p : Known) → IsInFlight p t → IsDefined p u → t ≢ u
not-defined t u p flies d e =
    let s = (subst (λ (z : WaitRef). IsInFlight p z) e flies).since in let n =
    d.until in omega arith

pub not-staged : (t u : WaitRef) (p : Known) → IsInFlight p t → IsStaged p u → t ≢ u
not-staged t u p flies d e =
    let s = (subst (λ (z : WaitRef). IsInFlight p z) e flies).since in let n =
    d.until in omega arith

-- the result of t was taken, and its handle taken back: another incarnation stays in flight
pub reclaimed-kept : (u t v : WaitRef) (class : Class) (l : Label) (p q r : Known)
    → TakesResult t p q l → v ≡ t
    → EventMade event.Reclaim v.handle (taken_word class v.generation)
    (idle_word (v.generation + 1)) [] q r
    → u ≢ t → IsInFlight p u → IsInFlight r u
reclaimed-kept u t v class l p q r k same back ne flies =
    let one = (unchanged-by-look u _ _ p k.between k.word_load).in_flight flies in
    let two = (unchanged-elsewhere u event.Local _ _ _ _ k.between q k.event_made ne).in_flight one in
    (unchanged-elsewhere u event.Reclaim _ _ _ _ q r back (λ e. ne (e ∙ same))).in_flight two

-- an actor at rest has begun one life
pub begun-unreclaimed : (u : WaitRef) (p q : Known) → AllReclaimed p → BeginsLife u p q
    → q.out ≡ None
    → HasUnreclaimed (u ∷ []) q
begun-unreclaimed u p q over begins out = record {
  out = out;
  lives = λ t.
      let b0 = (begins t).0 in
      let b7 = (begins t).1 in
      let before = over t in
      let more = one-more t u [] in omega arith;
}

-- an actor at rest is so once it has taken up others' incarnations
pub taken-up-rests : (p q : Known) (a b c d : ℕ) → ExecutesAll [] p q a b c d → HasNoOwnerTokens p
    → HasNoOwnerTokens q
taken-up-rests p q a b c d k no_owner_tokens = rests-with-none q
    (taken-up-unreclaimed [] p q a b c d k (none-at-rest p no_owner_tokens))
