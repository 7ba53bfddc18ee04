-- What an event tells its actor: what it saw, which token it has, and what it keeps of the others.
use Rattle.std.proofs.Common.{◌≡◌, ◌≢◌, ℕ, zero, suc, ◌+◌, ◌*◌, ◌<◌, ◌≤◌}
use Rattle.std.proofs.Common.{◌⊎◌, ◌==◌, ◌&&◌, max, Bool, true, false, List, []}
use Rattle.std.proofs.Common.{◌∷◌, ◌++◌, get_or, set, refl, sym, ap, ◌∙◌, subst}
use Rattle.std.proofs.Common.{inl, inr, ⊎_elim, arith, Option, Some, None, le_refl}
use Rattle.std.proofs.lemmas.Bool.Decides.{nat_tests}
use mathlib.Core.Logic.{dite}
use native.Mathlib.Decide.{dec_le}
use Rattle.aio_word.specs.declared.Class.{Class}
use Rattle.aio_word.specs.declared.Step.{Step as Event}
use Rattle.aio_word.specs.declared.Step.TheVariants as event
use Rattle.aio_word.specs.declared.Kind.{Kind}
use Rattle.aio_word.specs.declared.Kind.TheVariants as kind
use Rattle.aio_word.specs.declared.Mark.{Mark}
use Rattle.aio_word.specs.declared.WaitRef.{WaitRef}
use Rattle.aio_word.specs.declared.Word.{Word}
use Rattle.aio_word.specs.declared.Known.{Known}
use Rattle.aio_word.specs.Words.{word_place, word_rank}
use Rattle.aio_word.specs.Events.{kind_place, count_at_rank, wait_ref, with_mark, kind_of_step}
use Rattle.aio_word.specs.Stands.{IsIn, one_if, seen_rank}
use Rattle.aio_word.specs.Tokens.{IsDefined, IsStaged, IsInFlight, IsLocal}
use Rattle.aio_word.specs.Tokens.{IsClaimed, IsExecuted, MarksOnceAndSeen}
use Rattle.aio_word.proofs.ReplacedElement.{in-right}
use Rattle.aio_word.proofs.AppendKeepsHandle.{mark_by_parts, count_at_rank-push, counted-in}
use Rattle.aio_word.proofs.EventRows.{LawfulAndIdleAtLast, row-with-mark}
use Rattle.aio_word.proofs.EventEffect.{get-at}
use Rattle.aio_word.proofs.ListWithMark.{no-mark}
use Rattle.aio_word.proofs.MoreMarksKeep.{marks-once-and-seen}
use Rattle.aio_handle.specs.KnownChanges.{known_after, known_after_look}
use Rattle.aio_handle.specs.CallEvents.{EventMade, WordLoaded}
use Rattle.aio_handle.specs.LifeWords.{handed_out_word, defined_word, staged_word, unclaimed_word}
use Rattle.aio_handle.specs.LifeWords.{claimed_word, executed_word, completed_word, taken_word}
use Rattle.aio_handle.specs.Seats.{SlotIsOut}

-- with the greatest pair a pair never falls
max-set : (xs : List ℕ) (h i n : ℕ) → get_or xs i 0 ≤ get_or (set xs h (max (get_or xs h 0) n)) i 0
max-set [] h i n = omega arith
max-set (x ∷ xs) zero zero n = omega arith
max-set (x ∷ xs) zero (suc i) n = le_refl (get_or xs i 0)
max-set (x ∷ xs) (suc h) zero n = le_refl x
max-set (x ∷ xs) (suc h) (suc i) n = max-set xs h i n

pub seen-appends : (e : Event) (h : ℕ) (w w' : Word) (aim : List ℕ) (p q : Known)
    → EventMade e h w w' aim p q → (i : ℕ) → seen_rank p i ≤ seen_rank q i
seen-appends e h w w' aim p q m i = subst (λ (z : Known). seen_rank p i ≤ seen_rank z i) (sym m.is)
    (max-set p.seen h i (word_rank w'))

pub look-grows : (h : ℕ) (w : Word) (p q : Known) → WordLoaded h w p q → (i : ℕ)
    → seen_rank p i ≤ seen_rank q i
look-grows h w p q m i = subst (λ (z : Known). seen_rank p i ≤ seen_rank z i) (sym m.is)
    (max-set p.seen h i (word_rank w))

pub begun-of : (e : Event) (h : ℕ) (w w' : Word) (aim : List ℕ) (p q : Known)
    → EventMade e h w w' aim p q → LawfulAndIdleAtLast w
begun-of e h w w' aim p q m = let t = m.moment.words_match_lists.each_handle h w
    (get-at m.moment.machine.words h w m.moment.word) in record { lawful = t.lawful; last = t.last }

-- each mark once, and each seen
pub marks-once-on : (e : Event) (h : ℕ) (w w' : Word) (aim : List ℕ) (p q : Known)
    → EventMade e h w w' aim p q → MarksOnceAndSeen (seen_rank p) p.marks
    → MarksOnceAndSeen (seen_rank q) q.marks
marks-once-on e h w w' aim p q m k = by (kind_of_step w.class e) refl
  where
    by : (o : Option Kind) → kind_of_step w.class e ≡ o → MarksOnceAndSeen (seen_rank q) q.marks
    by None lv = subst (λ (z : List Mark). MarksOnceAndSeen (seen_rank q) z)
        (sym (ap (λ (z : Known). z.marks) m.is ∙ ap (with_mark p.marks h w.generation) lv))
        record {
          once = k.once;
          below = λ i n lt. let a = k.below i n lt in let b =
              seen-appends e h w w' aim p q m i in omega arith;
        }
    by (Some kd) lv =
        let row = row-with-mark w w' e kd (begun-of e h w w' aim p q m) m.row lv in
        let pl = row.place in
        let rk = row.rank in
        let before = m.before in
        let now = m.now in
        subst (λ (z : List Mark). MarksOnceAndSeen (seen_rank q) z)
        (sym (ap (λ (z : Known). z.marks) m.is ∙ ap (with_mark p.marks h w.generation) lv))
        (marks-once-and-seen (seen_rank p) (seen_rank q) (wait_ref h w.generation) kd p.marks
        (let goal : seen_rank p h ≤ 8 * w.generation + kind_place kd = omega arith in goal)
        (let goal : seen_rank q h ≡ 8 * w.generation + kind_place kd + 1 = omega arith in goal)
        (seen-appends e h w w' aim p q m) k)

pub marks-once-looked : (h : ℕ) (w : Word) (p q : Known) → WordLoaded h w p q
    → MarksOnceAndSeen (seen_rank p) p.marks
    → MarksOnceAndSeen (seen_rank q) q.marks
marks-once-looked h w p q m k = subst (λ (z : List Mark). MarksOnceAndSeen (seen_rank q) z)
    (sym (ap (λ (z : Known). z.marks) m.is))
    record {
      once = k.once;
      below = λ i n lt. let a = k.below i n lt in let b =
          look-grows h w p q m i in omega arith;
    }

mark-one : (h g o : ℕ) → one_if ((h == h) && (8 * g + o == 8 * g + o)) ≡ 1
mark-one h g o = grind (arith, nat_tests)

rank-else : (b : Bool) (r n : ℕ) → r ≢ n → one_if (b && (r == n)) ≡ 0
rank-else true r n ne = grind (arith, nat_tests)
rank-else false r n ne = refl

-- a new mark stands, and none of the later ones
pub stands-new : (s : ℕ → ℕ) (h g : ℕ) (k : Kind) (ms : List Mark) → MarksOnceAndSeen s ms
    → s h ≤ 8 * g + kind_place k → 0 < count_at_rank h (8 * g + kind_place k)
    (ms ++ mark_by_parts h g k ∷ [])
stands-new s h g k ms kp le = let a = count_at_rank-push h (8 * g + kind_place k) ms
    (mark_by_parts h g k) in let b =
    mark-one h g (kind_place k) in omega arith

pub none-later : (s : ℕ → ℕ) (h g : ℕ) (k : Kind) (ms : List Mark) → MarksOnceAndSeen s ms
    → s h ≤ 8 * g + kind_place k → (j : ℕ) → kind_place k < j
    → count_at_rank h (8 * g + j) (ms ++ mark_by_parts h g k ∷ []) ≡ 0
none-later s h g k ms kp le j lt =
    let a = count_at_rank-push h (8 * g + j) ms (mark_by_parts h g k) in
    let b = rank-else (h == h) (8 * g + kind_place k) (8 * g + j) (λ x. omega arith) in
    let z : count_at_rank h (8 * g + j) ms ≡ 0 = dite (dec_le (count_at_rank h (8 * g + j) ms) 0)
    (λ x. omega arith)
    (λ n. absurd (let c = kp.below h (8 * g + j) (omega arith) in omega arith)) in
    omega arith

module _ {h g : ℕ} {aim : List ℕ} {p q : Known} (kp : MarksOnceAndSeen (seen_rank p) p.marks) where
  pub defined-token : EventMade event.Define h (handed_out_word g) (defined_word g) aim p q
      → IsDefined q (wait_ref h g)
  defined-token m = let n = none-later (seen_rank p) h g kind.Defined p.marks kp m.before in
      subst (λ (z : Known). IsDefined z (wait_ref h g)) (sym m.is) record {
        since = stands-new (seen_rank p) h g kind.Defined p.marks kp m.before;
        until = let a = n 1 (omega arith) in let b = n 2 (omega arith) in let c = n 6 (omega arith)
            in
            let d = n 7 (omega arith) in omega arith;
      }

  pub staged-token : EventMade event.Stage h (defined_word g) (staged_word g) aim p q
      → IsStaged q (wait_ref h g)
  staged-token m = let n = none-later (seen_rank p) h g kind.Staged p.marks kp m.before in
      subst (λ (z : Known). IsStaged z (wait_ref h g)) (sym m.is) record {
        since = stands-new (seen_rank p) h g kind.Staged p.marks kp m.before;
        until = let b = n 2 (omega arith) in let c = n 6 (omega arith) in let d = n 7 (omega arith)
            in
            omega arith;
      }

  pub submitted-token : EventMade event.Submit h (staged_word g) (unclaimed_word g) aim p q
      → IsInFlight q (wait_ref h g)
  submitted-token m = let n = none-later (seen_rank p) h g kind.Submitted p.marks kp m.before in
      subst (λ (z : Known). IsInFlight z (wait_ref h g)) (sym m.is) record {
        since = stands-new (seen_rank p) h g kind.Submitted p.marks kp m.before;
        until = let c = n 6 (omega arith) in let d = n 7 (omega arith) in omega arith;
      }

  pub claimed-token : EventMade event.Claim h (unclaimed_word g) (claimed_word g) aim p q
      → IsClaimed q (wait_ref h g)
  claimed-token m = let n = none-later (seen_rank p) h g kind.Claimed p.marks kp m.before in
      subst (λ (z : Known). IsClaimed z (wait_ref h g)) (sym m.is) record {
        since = stands-new (seen_rank p) h g kind.Claimed p.marks kp m.before;
        until = let c = n 4 (omega arith) in let d = n 5 (omega arith) in omega arith;
      }

  pub executed-token : {class : Class}
      → EventMade (event.Io class) h (claimed_word g) (executed_word class g) aim p q
      → IsExecuted class q (wait_ref h g)
  executed-token {class} m = let n = none-later (seen_rank p) h g
      (kind.Io class) p.marks kp m.before in
      subst (λ (z : Known). IsExecuted class z (wait_ref h g)) (sym m.is) record {
        since = in-right (mark_by_parts h g (kind.Io class)) p.marks
            (mark_by_parts h g (kind.Io class) ∷ [])
            (inl refl);
        until = n 5 (omega arith);
      }

  pub local-token : {class : Class}
      → EventMade event.Local h (completed_word class g) (taken_word class g) aim p q
      → IsLocal q (wait_ref h g)
  local-token {class} m = let n = none-later (seen_rank p) h g
      (kind.Local class) p.marks kp m.before in
      subst (λ (z : Known). IsLocal z (wait_ref h g)) (sym m.is) record {
        since = stands-new (seen_rank p) h g (kind.Local class) p.marks kp m.before;
        until = n 7 (omega arith);
      }

-- the note of an incarnation's aim
pub submit-notes : {h g : ℕ} {aim : List ℕ} {p q : Known}
    → EventMade event.Submit h (staged_word g) (unclaimed_word g) aim p q
    → IsIn (wait_ref h g, aim) q.aims
submit-notes {h} {g} {aim} {p} m = subst (λ (z : Known). IsIn (wait_ref h g, aim) z.aims) (sym m.is)
    (in-right (wait_ref h g, aim) p.aims ((wait_ref h g, aim) ∷ []) (inl refl))

pub claim-notes : {h g : ℕ} {aim : List ℕ} {p q : Known}
    → EventMade event.Claim h (unclaimed_word g) (claimed_word g) aim p q
    → IsIn (wait_ref h g, aim) q.aims
claim-notes {h} {g} {aim} {p} m = subst (λ (z : Known). IsIn (wait_ref h g, aim) z.aims) (sym m.is)
    (in-right (wait_ref h g, aim) p.aims ((wait_ref h g, aim) ∷ []) (inl refl))

-- which slots are out with an actor
pub defined-slot-out : {p : Known} {h g : ℕ} → IsDefined p (wait_ref h g) → SlotIsOut p h
defined-slot-out {g = g} t =
    (g, inr ((0, 2), inl refl, record { since = t.since; until = let u = t.until in omega arith }))

pub staged-slot-out : {p : Known} {h g : ℕ} → IsStaged p (wait_ref h g) → SlotIsOut p h
staged-slot-out {g = g} t = (
  g,
  inr (
    (1, 2),
    inr (inl refl),
    record { since = t.since; until = let u = t.until in omega arith },
  ),
)

pub claimed-slot-out : {p : Known} {h g : ℕ} → IsClaimed p (wait_ref h g) → SlotIsOut p h
claimed-slot-out {g = g} t = (
  g,
  inr (
    (3, 5),
    inr (inr (inl refl)),
    record { since = t.since; until = let u = t.until in omega arith },
  ),
)

pub executed-slot-out : {class : Class} {p : Known} {h g : ℕ} → IsExecuted class p (wait_ref h g)
    → SlotIsOut p h
executed-slot-out {class} {p} {h} {g} t = (
  g,
  inr (
    (4, 5),
    inr (inr (inr (inl refl))),
    record {
      since = counted-in (mark_by_parts h g (kind.Io class)) p.marks t.since;
      until = t.until;
    },
  ),
)

pub local-slot-out : {p : Known} {h g : ℕ} → IsLocal p (wait_ref h g) → SlotIsOut p h
local-slot-out {g = g} t =
    (g, inr ((6, 7), inr (inr (inr (inr (inl refl)))), record { since = t.since; until = t.until }))

some-same : (a b : WaitRef) → Some a ≡ Some b → a ≡ b
some-same a b e = cc

none-some : (a : WaitRef) → None ≡ Some a → ⊥
none-some a e = cc

-- an event leaves the slots of other handles
pub slot-out-elsewhere : (e : Event) (h : ℕ) (w w' : Word) (aim : List ℕ) (p q : Known) (i : ℕ)
    → q ≡ known_after e h w w' aim p → i ≢ h → SlotIsOut q i → SlotIsOut p i
slot-out-elsewhere e h w w' aim p q i is ne (g, away) = (
  g,
  ⊎_elim (λ o. inl (out e (sym (ap (λ (z : Known). z.out) is) ∙ o))) (λ (span, sp, t). inr (
    span,
    sp,
    record {
      since = subst (λ (z : ℕ). 0 < z) (same (8 * g + span.0)) t.since;
      until = sym (same (8 * g + span.1)) ∙ t.until;
    },
  )) away,
)
  where
    out : (e : Event) → (known_after e h w w' aim p).out ≡ Some (wait_ref i g)
        → p.out ≡ Some (wait_ref i g)
    out event.HandOut o = absurd
        (ne (sym (ap (λ (z : WaitRef). z.handle) (some-same (wait_ref h w.generation)
        (wait_ref i g) o))))
    out event.Release o = absurd (none-some (wait_ref i g) o)
    out event.Define o = absurd (none-some (wait_ref i g) o)
    out event.Stage o = o
    out event.Submit o = o
    out event.Claim o = o
    out (event.Io class) o = o
    out event.Shared o = o
    out event.Local o = o
    out event.Reclaim o = o

    with_mark-same : (k : Option Kind) (n : ℕ)
        → count_at_rank i n (with_mark p.marks h w.generation k) ≡ count_at_rank i n p.marks
    with_mark-same None n = refl
    with_mark-same (Some k) n = let push = count_at_rank-push i n p.marks
        (mark_by_parts h w.generation k) in let no =
        no-mark i h n (8 * w.generation + kind_place k) ne in push ∙ (omega arith)

    same : (n : ℕ) → count_at_rank i n q.marks ≡ count_at_rank i n p.marks
    same n = ap (λ (z : Known). count_at_rank i n z.marks) is
        ∙ with_mark-same (kind_of_step w.class e) n

pub slot-out-looked : (h : ℕ) (w : Word) (i : ℕ) (p : Known) → SlotIsOut (known_after_look h w p) i
    → SlotIsOut p i
slot-out-looked h w i p (g, away) = (
  g,
  ⊎_elim inl
      (λ (span, sp, t). inr (span, sp, record { since = t.since; until = t.until })) away,
)

-- an event on the handle h whose word was w changes no count but that of h at the word's rank
pub counts-apart : (e : Event) (h : ℕ) (w w' : Word) (aim : List ℕ) (p q : Known)
    → EventMade e h w w' aim p q → (i n : ℕ) → (i ≢ h) ⊎ (n ≢ word_rank w)
    → count_at_rank i n q.marks ≡ count_at_rank i n p.marks
counts-apart e h w w' aim p q m i n apart = ap (λ (z : Known). count_at_rank i n z.marks) m.is ∙ by
    (kind_of_step w.class e) refl
  where
    none-here : (k : Kind) → kind_place k ≡ word_place w
        → one_if ((h == i) && (8 * w.generation + kind_place k == n)) ≡ 0
    none-here k pl = ⊎_elim (λ ne. no-mark i h n (8 * w.generation + kind_place k) ne)
        (λ ne. rank-else (h == i) (8 * w.generation + kind_place k) n (λ x. ne (omega arith))) apart

    by : (o : Option Kind) → kind_of_step w.class e ≡ o
        → count_at_rank i n (with_mark p.marks h w.generation (kind_of_step w.class e))
        ≡ count_at_rank i n p.marks
    by None lv = ap (λ z. count_at_rank i n (with_mark p.marks h w.generation z)) lv
    by (Some k) lv = ap (λ z. count_at_rank i n (with_mark p.marks h w.generation z)) lv ∙
        (let push = count_at_rank-push i n p.marks (mark_by_parts h w.generation k) in let no =
        none-here k (row-with-mark w w' e k (begun-of e h w w' aim p q m) m.row lv).place in
        push ∙ (omega arith))
