-- What events and executions leave of an owner's tokens.
use Rattle.std.proofs.Common.{◌≡◌, ◌≢◌, ℕ, ◌+◌, ◌*◌, ◌<◌, ◌⊎◌, List, [], ◌∷◌, ◌++◌, refl, sym, ap}
use Rattle.std.proofs.Common.{◌∙◌, subst, inl, inr, arith, Option, Some, None}
use mathlib.Core.Logic.{dite}
use native.Mathlib.Decide.{ℕ_discrete}
use Rattle.aio_word.specs.declared.Step.{Step as Event}
use Rattle.aio_word.specs.declared.Class.{Class}
use Rattle.aio_word.specs.declared.Step.TheVariants as event
use Rattle.aio_word.specs.declared.Kind.{Kind}
use Rattle.aio_word.specs.declared.Kind.TheVariants as kind
use Rattle.aio_word.specs.declared.Mark.{Mark}
use Rattle.aio_word.specs.declared.Word.{Word}
use Rattle.aio_word.specs.declared.WaitRef.{WaitRef}
use Rattle.aio_word.specs.declared.Known.{Known}
use Rattle.aio_word.specs.Words.{word_place}
use Rattle.aio_word.specs.Events.{wait_ref, kind_place, with_mark, kind_of_step}
use Rattle.aio_word.specs.Stands.{IsIn, seen_rank}
use Rattle.aio_word.specs.Tokens.{owner_mark_count, MarksOnceAndSeen, IsClaimed, make_mark}
use Rattle.aio_word.proofs.ReplacedElement.{in-left}
use Rattle.aio_word.proofs.AppendKeepsHandle.{mark_by_parts, place-small, counted-in}
use Rattle.aio_word.proofs.MoreMarksKeep.{count_at_place, mark_count-more, mark_count-place}
use Rattle.aio_handle.specs.KnownChanges.{aims_after}
use Rattle.aio_handle.specs.LifeWords.{handed_out_word, defined_word, unclaimed_word, claimed_word}
use Rattle.aio_handle.specs.CallEvents.{EventMade, WordLoaded, IsByOwner}
use Rattle.aio_handle.specs.Execution.{ExecutesAll}
use Rattle.aio_handle.proofs.TokensAfterEvent.{counts-apart}
use Rattle.aio_handle.specs.UnchangedTokens.{TokenUnchanged, ClaimUnchanged, UsesToken}

-- the owner's marks of t stand as often as before
pub record SameOwn (t : WaitRef) (ms ns : List Mark) : Type 0 where
  pub defined : count_at_place t 0 ns ≡ count_at_place t 0 ms
  pub staged : count_at_place t 1 ns ≡ count_at_place t 1 ms
  pub submitted : count_at_place t 2 ns ≡ count_at_place t 2 ms
  pub taken : count_at_place t 6 ns ≡ count_at_place t 6 ms
  pub reclaimed : count_at_place t 7 ns ≡ count_at_place t 7 ms

same-own : (t : WaitRef) (ms : List Mark) → SameOwn t ms ms
same-own t ms =
    record { defined = refl; staged = refl; submitted = refl; taken = refl; reclaimed = refl }

pub unchanged-where-same : (t : WaitRef) (p q : Known) → SameOwn t p.marks q.marks
    → ((aim : List ℕ) → IsIn (t, aim) p.aims → IsIn (t, aim) q.aims) → TokenUnchanged t p q
unchanged-where-same t p q s aims =
    let s0 = s.defined in let s1 = s.staged in let s2 = s.submitted in let s6 = s.taken in
    let s7 = s.reclaimed in record {
      defined = λ d. let a = d.since in let b = d.until in
          record { since = omega arith; until = omega arith };
      staged = λ d. let a = d.since in let b = d.until in
          record { since = omega arith; until = omega arith };
      in_flight = λ d. let a = d.since in let b = d.until in
          record { since = omega arith; until = omega arith };
      local = λ d. let a = d.since in let b = d.until in
          record { since = omega arith; until = omega arith };
      aims = aims;
    }

pub unchanged-then : (t : WaitRef) (p q r : Known) → TokenUnchanged t p q → TokenUnchanged t q r
    → TokenUnchanged t p r
unchanged-then t p q r a b = record {
  defined = λ d. b.defined (a.defined d);
  staged = λ d. b.staged (a.staged d);
  in_flight = λ d. b.in_flight (a.in_flight d);
  local = λ d. b.local (a.local d);
  aims = λ aim i. b.aims aim (a.aims aim i);
}

-- what is executed has no owner's mark
pub unchanged-by-execution : (t : WaitRef) (held : List Mark) (p q : Known) (a b c d : ℕ)
    → ExecutesAll held p q a b c d → TokenUnchanged t p q
unchanged-by-execution t held p q a b c d k =
    let none : owner_mark_count t (held ++ k.more) ≡ 0 = k.claims_completed.owners t in
    let none-of : (i : ℕ) → count_at_place t i (held ++ k.more) ≡ 0
    → count_at_place t i q.marks ≡ count_at_place t i p.marks =
    λ i z. ap (count_at_place t i) k.grows.marks ∙
    (omega (arith, mark_count-more t i p.marks k.more, mark_count-more t i held k.more)) in
    unchanged-where-same t p q record {
      defined = none-of 0 (omega arith);
      staged = none-of 1 (omega arith);
      submitted = none-of 2 (omega arith);
      taken = none-of 6 (omega arith);
      reclaimed = none-of 7 (omega arith);
    } (λ aim i. k.grows.aims (t, aim) i)

pub unchanged-by-look : (t : WaitRef) (h : ℕ) (w : Word) (p q : Known) → WordLoaded h w p q
    → TokenUnchanged t p q
unchanged-by-look t h w p q k = unchanged-where-same t p q
    (subst (λ (z : Known). SameOwn t p.marks z.marks) (sym k.is) (same-own t p.marks))
    (λ aim i. subst (λ (z : Known). IsIn (t, aim) z.aims) (sym k.is) i)

-- an event never forgets an aim
aims-stay : (e : Event) (x : WaitRef × List ℕ) (aims : List (WaitRef × List ℕ)) (t : WaitRef)
    (aim : List ℕ) → IsIn x aims → IsIn x (aims_after aims t aim e)
aims-stay event.HandOut x aims t aim i = i
aims-stay event.Release x aims t aim i = i
aims-stay event.Define x aims t aim i = i
aims-stay event.Stage x aims t aim i = i
aims-stay event.Submit x aims t aim i = in-left x aims ((t, aim) ∷ []) i
aims-stay event.Claim x aims t aim i = in-left x aims ((t, aim) ∷ []) i
aims-stay (event.Io class) x aims t aim i = i
aims-stay event.Shared x aims t aim i = i
aims-stay event.Local x aims t aim i = i
aims-stay event.Reclaim x aims t aim i = i

-- a claimer's mark leaves the owner's
same-worked : (t : WaitRef) (h g : ℕ) (k : Kind) (ms : List Mark) → 2 < kind_place k
    → kind_place k < 6
    → SameOwn t ms (ms ++ mark_by_parts h g k ∷ [])
same-worked t h g k ms lo hi = record {
  defined = mark_count-place t (wait_ref h g) 0 k ms (λ e. omega arith) (omega arith);
  staged = mark_count-place t (wait_ref h g) 1 k ms (λ e. omega arith) (omega arith);
  submitted = mark_count-place t (wait_ref h g) 2 k ms (λ e. omega arith) (omega arith);
  taken = mark_count-place t (wait_ref h g) 6 k ms (λ e. omega arith) (omega arith);
  reclaimed = mark_count-place t (wait_ref h g) 7 k ms (λ e. omega arith) (omega arith);
}

unused-marks : (t : WaitRef) (e : Event) (h g : ℕ) (class : Class) (ms : List Mark)
    → (UsesToken e → ⊥) → SameOwn t ms (with_mark ms h g (kind_of_step class e))
unused-marks t event.HandOut h g class ms uses = same-own t ms
unused-marks t event.Release h g class ms uses = same-own t ms
unused-marks t event.Define h g class ms uses = absurd (uses tt)
unused-marks t event.Stage h g class ms uses = absurd (uses tt)
unused-marks t event.Submit h g class ms uses = absurd (uses tt)
unused-marks t event.Claim h g class ms uses =
    same-worked t h g kind.Claimed ms (omega arith) (omega arith)
unused-marks t (event.Io ended) h g class ms uses =
    same-worked t h g (kind.Io ended) ms (omega arith) (omega arith)
unused-marks t event.Shared h g class ms uses =
    same-worked t h g kind.Shared ms (omega arith) (omega arith)
unused-marks t event.Local h g class ms uses = absurd (uses tt)
unused-marks t event.Reclaim h g class ms uses = absurd (uses tt)

apart : (t : WaitRef) (h g i o : ℕ) → t ≢ wait_ref h g → i < 8 → o < 8
    → (t.handle ≢ h) ⊎ ((8 * t.generation + i) ≢ (8 * g + o))
apart t h g i o ne a b = dite (ℕ_discrete t.handle h)
    (λ same. inr (λ e. let gen : t.generation ≡ g = omega arith in
    ne (ap (λ (z : ℕ). wait_ref z t.generation) same ∙ ap (λ (z : ℕ). wait_ref h z) gen)))
    (λ other. inl other)

module _ (t : WaitRef) (e : Event) (h : ℕ) (w w' : Word) (aim : List ℕ) (p q : Known)
    (m : EventMade e h w w' aim p q) where
  pub aims-unchanged : (a : List ℕ) → IsIn (t, a) p.aims → IsIn (t, a) q.aims
  aims-unchanged a i = subst (λ (z : Known). IsIn (t, a) z.aims) (sym m.is)
      (aims-stay e (t, a) p.aims (wait_ref h w.generation) aim i)

  pub unchanged-elsewhere : t ≢ wait_ref h w.generation → TokenUnchanged t p q
  unchanged-elsewhere ne =
      let same : (i : ℕ) → i < 8 → count_at_place t i q.marks ≡ count_at_place t i p.marks = λ i lt.
      counts-apart e h w w' aim p q m t.handle (8 * t.generation + i)
      (apart t h w.generation i (word_place w) ne lt (place-small w.state w.claimed)) in
      unchanged-where-same t p q record {
        defined = same 0 (omega arith);
        staged = same 1 (omega arith);
        submitted = same 2 (omega arith);
        taken = same 6 (omega arith);
        reclaimed = same 7 (omega arith);
      } aims-unchanged

  -- an event that uses no token leaves no owner's mark
  pub unchanged-unused : (UsesToken e → ⊥) → TokenUnchanged t p q
  unchanged-unused uses = unchanged-where-same t p q
      (subst (λ (z : Known). SameOwn t p.marks z.marks) (sym m.is)
      (unused-marks t e h w.generation w.class p.marks uses)) aims-unchanged

-- what is defined is new, since its handle was seen at no mark of its generation
pub unchanged-by-define : (t : WaitRef) (h g : ℕ) (aim : List ℕ) (p q : Known)
    → MarksOnceAndSeen (seen_rank p) p.marks
    → EventMade event.Define h (handed_out_word g) (defined_word g) aim p q
    → TokenUnchanged t p q
unchanged-by-define t h g aim p q marks_once m =
    let new : (i : ℕ) → 0 < count_at_place t i p.marks → t ≢ wait_ref h g = λ i there e.
    let there' : 0 < count_at_place (wait_ref h g) i p.marks =
    subst (λ (z : WaitRef). 0 < count_at_place z i p.marks) e there in
    let seen = marks_once.below h (8 * g + i) there' in let before = m.before in omega arith in
    let kept = unchanged-elsewhere t event.Define h (handed_out_word g) (defined_word g) aim p q m
    in record {
      defined = λ d. (kept (new 0 d.since)).defined d;
      staged = λ d. (kept (new 1 d.since)).staged d;
      in_flight = λ d. (kept (new 2 d.since)).in_flight d;
      local = λ d. (kept (new 6 d.since)).local d;
      aims = aims-unchanged t event.Define h (handed_out_word g) (defined_word g) aim p q m;
    }

-- the claimer's marks of t stand as often as before
record SameWork (t : WaitRef) (ms ns : List Mark) : Type 0 where
  claimed : count_at_place t 3 ns ≡ count_at_place t 3 ms
  executed : count_at_place t 4 ns ≡ count_at_place t 4 ms
  shared : count_at_place t 5 ns ≡ count_at_place t 5 ms

same-work : (t : WaitRef) (ms : List Mark) → SameWork t ms ms
same-work t ms = record { claimed = refl; executed = refl; shared = refl }

in-noted : (x : Mark) (ms : List Mark) (h g : ℕ) (o : Option Kind) → IsIn x ms
    → IsIn x (with_mark ms h g o)
in-noted x ms h g None i = i
in-noted x ms h g (Some k) i = in-left x ms (mark_by_parts h g k ∷ []) i

claim-unchanged-where-same : (t : WaitRef) (p q : Known) → SameWork t p.marks q.marks
    → ((x : Mark) → IsIn x p.marks → IsIn x q.marks)
    → ((aim : List ℕ) → IsIn (t, aim) p.aims → IsIn (t, aim) q.aims) → ClaimUnchanged t p q
claim-unchanged-where-same t p q s stays aims =
    let s3 = s.claimed in let s4 = s.executed in let s5 = s.shared in record {
      claimed = λ d. let a = d.since in let b = d.until in
          record { since = omega arith; until = omega arith };
      executed = λ class d. let b = d.until in
          record { since = stays (make_mark t (kind.Io class)) d.since; until = omega arith };
      aims = aims;
    }

pub claim-unchanged-by-look : (t : WaitRef) (h : ℕ) (w : Word) (p q : Known) → WordLoaded h w p q
    → ClaimUnchanged t p q
claim-unchanged-by-look t h w p q k = claim-unchanged-where-same t p q
    (subst (λ (z : Known). SameWork t p.marks z.marks) (sym k.is) (same-work t p.marks))
    (λ x i. subst (λ (z : Known). IsIn x z.marks) (sym k.is) i)
    (λ aim i. subst (λ (z : Known). IsIn (t, aim) z.aims) (sym k.is) i)

-- an owner's mark leaves the claimer's
same-owners : (t : WaitRef) (h g : ℕ) (k : Kind) (ms : List Mark) → kind_place k < 3
    → SameWork t ms (ms ++ mark_by_parts h g k ∷ [])
same-owners t h g k ms lo = record {
  claimed = mark_count-place t (wait_ref h g) 3 k ms (λ e. omega arith) (omega arith);
  executed = mark_count-place t (wait_ref h g) 4 k ms (λ e. omega arith) (omega arith);
  shared = mark_count-place t (wait_ref h g) 5 k ms (λ e. omega arith) (omega arith);
}

same-late : (t : WaitRef) (h g : ℕ) (k : Kind) (ms : List Mark) → 5 < kind_place k
    → SameWork t ms (ms ++ mark_by_parts h g k ∷ [])
same-late t h g k ms hi = record {
  claimed = mark_count-place t (wait_ref h g) 3 k ms (λ e. omega arith) (omega arith);
  executed = mark_count-place t (wait_ref h g) 4 k ms (λ e. omega arith) (omega arith);
  shared = mark_count-place t (wait_ref h g) 5 k ms (λ e. omega arith) (omega arith);
}

owners-marks : (t : WaitRef) (e : Event) (h g : ℕ) (class : Class) (ms : List Mark) → IsByOwner e
    → SameWork t ms (with_mark ms h g (kind_of_step class e))
owners-marks t event.HandOut h g class ms by = same-work t ms
owners-marks t event.Release h g class ms by = same-work t ms
owners-marks t event.Define h g class ms by = same-owners t h g kind.Defined ms (omega arith)
owners-marks t event.Stage h g class ms by = same-owners t h g kind.Staged ms (omega arith)
owners-marks t event.Submit h g class ms by = same-owners t h g kind.Submitted ms (omega arith)
owners-marks t event.Claim h g class ms by = absurd by
owners-marks t (event.Io ended) h g class ms by = absurd by
owners-marks t event.Shared h g class ms by = absurd by
owners-marks t event.Local h g class ms by = same-late t h g (kind.Local class) ms (omega arith)
owners-marks t event.Reclaim h g class ms by = same-late t h g kind.Reclaimed ms (omega arith)

module _ (t : WaitRef) (e : Event) (h : ℕ) (w w' : Word) (aim : List ℕ) (p q : Known)
    (m : EventMade e h w w' aim p q) where
  marks-kept : (x : Mark) → IsIn x p.marks → IsIn x q.marks
  marks-kept x i = subst (λ (z : Known). IsIn x z.marks) (sym m.is)
      (in-noted x p.marks h w.generation (kind_of_step w.class e) i)

  pub claim-unchanged-elsewhere : t ≢ wait_ref h w.generation → ClaimUnchanged t p q
  claim-unchanged-elsewhere ne =
      let same : (i : ℕ) → i < 8 → count_at_place t i q.marks ≡ count_at_place t i p.marks = λ i lt.
      counts-apart e h w w' aim p q m t.handle (8 * t.generation + i)
      (apart t h w.generation i (word_place w) ne lt (place-small w.state w.claimed)) in
      claim-unchanged-where-same t p q record {
        claimed = same 3 (omega arith);
        executed = same 4 (omega arith);
        shared = same 5 (omega arith);
      } marks-kept (aims-unchanged t e h w w' aim p q m)

  -- an owner's event leaves no claimer's mark
  pub claim-unchanged-by-owner : IsByOwner e → ClaimUnchanged t p q
  claim-unchanged-by-owner by = claim-unchanged-where-same t p q
      (subst (λ (z : Known). SameWork t p.marks z.marks) (sym m.is)
      (owners-marks t e h w.generation w.class p.marks by)) marks-kept
      (aims-unchanged t e h w w' aim p q m)

module _ (t : WaitRef) (h g : ℕ) (aim : List ℕ) (p q : Known)
    (marks_once : MarksOnceAndSeen (seen_rank p) p.marks)
    (m : EventMade event.Claim h (unclaimed_word g) (claimed_word g) aim p q) where
  -- what is claimed has no mark of a claimer yet, since its handle was seen at none of them
  not-this : (i : ℕ) → 2 < i → 0 < count_at_place t i p.marks → t ≢ wait_ref h g
  not-this i more there e =
      let there' : 0 < count_at_place (wait_ref h g) i p.marks =
      subst (λ (z : WaitRef). 0 < count_at_place z i p.marks) e there in
      let seen = marks_once.below h (8 * g + i) there' in let before = m.before in omega arith

  pub claimed-is-other : IsClaimed p t → t ≢ wait_ref h g
  claimed-is-other d = not-this 3 (omega arith) d.since

  pub claim-unchanged-by-claim : ClaimUnchanged t p q
  claim-unchanged-by-claim = let kept = claim-unchanged-elsewhere t event.Claim h (unclaimed_word g)
      (claimed_word g)
      aim p q m in record {
        claimed = λ d. (kept (claimed-is-other d)).claimed d;
        executed = λ class d. (kept (not-this 4 (omega arith)
            (counted-in (make_mark t (kind.Io class)) p.marks d.since))).executed class d;
        aims = aims-unchanged t event.Claim h (unclaimed_word g) (claimed_word g) aim p q m;
      }
