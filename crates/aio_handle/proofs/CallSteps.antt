-- What each call's step tells of its actor, and its seat afterwards.
use Rattle.std.proofs.Common.{◌≡◌, ◌≢◌, ℕ, ◌+◌, ◌*◌, ◌≤◌, false, List, [], ◌∷◌}
use Rattle.std.proofs.Common.{refl, sym, ap, ◌∙◌, subst, Option, Some, None}
use Rattle.atomic_table.specs.Table.{Me, Step, rest}
use Rattle.aio_word.specs.declared.Config.{Config}
use Rattle.aio_word.specs.declared.Class.{Class}
use Rattle.aio_word.specs.declared.Step.{Step as Event}
use Rattle.aio_word.specs.declared.Step.TheVariants as event
use Rattle.aio_word.specs.declared.Word.{Word}
use Rattle.aio_word.specs.declared.Known.{Known}
use Rattle.aio_word.specs.Words.{packed_word}
use Rattle.aio_word.specs.Events.{wait_ref}
use Rattle.aio_word.specs.Stands.{IsIn, seen_rank}
use Rattle.aio_word.specs.Tokens.{IsInFlight}
use Rattle.aio_word.proofs.PackIsInjective.{packed_word-injective}
use Rattle.aio_handle.specs.declared.record.Label.{Label}
use Rattle.aio_handle.specs.Labels.{bound_label}
use Rattle.aio_handle.specs.MoveToFront.{moved_to_front}
use Rattle.aio_handle.specs.CallEvents.{EventMade, WordLoaded}
use Rattle.aio_handle.specs.LifeWords.{unclaimed_word, claimed_word}
use Rattle.aio_handle.specs.LifeWords.{executed_word, completed_word, taken_word}
use Rattle.aio_handle.specs.Steps.{StepMakesEvent, KeepsSlots, Executes, HandsOut, ReturnsSlot}
use Rattle.aio_handle.specs.Steps.{Claims, TakesCompleted, StepLoadsWord}
use Rattle.aio_handle.specs.Seats.{SlotIsOut, IsSeated, seat_known}
use Rattle.aio_handle.proofs.SeatAfterStep.{seated-same, seated-more, seated-less, seated-looked}

some-record : {R : Type 0} (a b : R) → Some a ≡ Some b → a ≡ b
some-record a b e = cc

abbrev slot : {R : Type 0} → ℕ → Option R → ℕ × Option R
slot h x = (h, x)

same-slot : {R : Type 0} (h : ℕ) (a b : R) → slot h (Some a) ≡ slot h (Some b) → a ≡ b
same-slot {R} h a b e = some-record a b (ap (λ (z : ℕ × Option R). z.1) e)

abbrev head-of : {A : Type 0} → A → List A → A
head-of d [] = d
head-of d (x ∷ xs) = x

head-same : {A : Type 0} {a b : A} {xs ys : List A} → a ∷ xs ≡ b ∷ ys → a ≡ b
head-same {A} {a} e = ap (head-of a) e

-- what a call's step tells of its event, at the generation of the word that was written
pub event-of : {R : Type 0} {e : Event} {from to : ℕ → Word} {aim : List ℕ}
    {slots : List (ℕ × Option R)} {st : Step (Option R)} {m m' : Me (Option R) (List Known)} {n : ℕ}
    {v : List Known} → StepMakesEvent e from to aim slots st m n m' → m.0 ≡ v → (g : ℕ)
    → ((a b : ℕ) → (to a).generation ≡ (to b).generation → a ≡ b) → st.first ≡ packed_word (to g)
    → EventMade e st.word (from g) (to g) aim (seat_known v) (seat_known m'.0)
event-of {e = e} {from = from} {to = to} {aim = aim} {st = st} {m' = m'} d front g same is =
    subst (λ (z : Known × Known). EventMade e st.word (from g) (to g) aim z.0 z.1)
    (λ k. (
      ap seat_known (sym d.by_owner ∙ front) k,
      ap (λ (z : Me (Option _) (List Known)). seat_known z.0) (sym d.then) k,
    ))
    (subst (λ (z : ℕ). EventMade e st.word (from z) (to z) aim d.p d.q)
    (same d.g g (ap (λ (w : Word). w.generation)
    (packed_word-injective (to d.g) (to g) (sym d.wrote ∙ is)))) d.event_made)

pub executes-made : {R : Type 0} {st : Step (Option R)} {m m' : Me (Option R) (List Known)} {n : ℕ}
    → Executes st m n m' → (class : Class) (g : ℕ) → st.first ≡ packed_word (executed_word class g)
    → EventMade (event.Io class) st.word (claimed_word g) (executed_word class g) []
    (seat_known m.0) (seat_known m'.0)
executes-made {st = st} {m = m} {m' = m'} (class', d) class g is =
    let same : class' ≡ class = ap (λ (w : Word). w.class) (packed_word-injective
    (executed_word class' d.g) (executed_word class g) (sym d.wrote ∙ is)) in
    subst (λ (z : Class). EventMade (event.Io z) st.word (claimed_word g) (executed_word z g) []
    (seat_known m.0) (seat_known m'.0)) same
    (event-of d refl g (λ a b x. x)
    (is ∙ ap (λ (z : Class). packed_word (executed_word z g)) (sym same)))

module _ {R : Type 0} {c : Config} {number : ℕ} {m m' : Me (Option R) (List Known)}
    (s : IsSeated c number m) where
  pub stays-seated : {e : Event} {from to : ℕ → Word} {aim : List ℕ} {st : Step (Option R)} {n : ℕ}
      → KeepsSlots e from to aim st m n m' → SlotIsOut (seat_known m.0) st.word
      → IsSeated c number m'
  stays-seated d away = seated-same s d.by_owner d.event_made d.then away

  pub hands-seated : {st : Step (Option R)} {n : ℕ} → HandsOut st m n m' → IsSeated c number m'
  hands-seated d = seated-more s d.by_owner d.event_made d.then

  -- a slot goes home: m before, m2 at the step, m' after it
  pub returns-seated : {e : Event} {from to : ℕ → Word} {aim : List ℕ} {st : Step (Option R)} {n : ℕ}
      {m2 : Me (Option R) (List Known)} → ReturnsSlot e from to aim st m2 n m' → m2.0 ≡ m.0
      → rest m2.1 ≡ rest (moved_to_front st.word m.1) → SlotIsOut (seat_known m.0) st.word
      → IsSeated c number m'
  returns-seated (d, gone) front behind away = seated-less s (sym front ∙ d.by_owner) d.event_made
      (d.then ∙ ap (λ (z : List (ℕ × Option R)). (d.q ∷ [], z)) behind) away gone

  pub looks-seated : {st : Step (Option R)} {n : ℕ} → StepLoadsWord st m n m' → IsSeated c number m'
  looks-seated d = seated-looked s d.by_owner d.then d.loaded.2

pub looks-saw : {R : Type 0} {m m' : Me (Option R) (List Known)} {st : Step (Option R)} {n : ℕ}
    → StepLoadsWord st m n m'
    → (w : Word) × (packed_word w ≡ n) × WordLoaded st.word w (seat_known m.0) (seat_known m'.0)
looks-saw {m' = m'} {st = st} d = (
  d.loaded.0,
  d.loaded.1,
  subst (λ (z : Known × Known). WordLoaded st.word d.loaded.0 z.0 z.1)
      (λ k. (
        ap seat_known (sym d.by_owner) k,
        ap (λ (z : Me (Option _) (List Known)). seat_known z.0) (sym d.then) k,
      )) d.loaded.2,
)

-- the slot of the step came first, and is empty in the seat m3 afterwards
emptied : {R : Type 0} (h : ℕ) (q : Known) (x : R) (cs : List (ℕ × Option R))
    (m' m3 : Me (Option R) (List Known)) → m3 ≡ (m'.0, (h, None) ∷ rest m'.1)
    → m' ≡ (q ∷ [], (h, Some x) ∷ cs) → m3 ≡ (q ∷ [], (h, None) ∷ cs)
emptied h q x cs m' m3 after then = after
    ∙ ap (λ (z : Me (Option _) (List Known)). (z.0, (h, None) ∷ rest z.1)) then

module _ {R : Type 0} {label : R → Label} {aim_in : R → List ℕ} {Fits : R → Type 0}
    {st : Step (Option R)} {found : ℕ} {m m' : Me (Option R) (List Known)}
    (t : Claims label aim_in Fits st m found m') where
  -- the slot that a won claim took comes first
  pub taken-first : found ≡ st.first → (x : Option R) × (m'.1 ≡ (st.word, x) ∷ rest m'.1)
  taken-first hit = let (g, (r, n, then, md, l, f)) = t.won hit in (
    Some r,
    ap (λ (z : Me (Option R) (List Known)). z.1) then ∙ sym
        (ap (λ (z : Me (Option R) (List Known)). (st.word, Some r) ∷ rest z.1) then),
  )

  pub lost-seated : {c : Config} {number : ℕ} → found ≢ st.first → IsSeated c number m
      → IsSeated c number m'
  lost-seated miss s = let (then, (w, n, lk)) = t.lost miss in seated-looked s t.by_owner then lk

  pub won-seated : {c : Config} {number : ℕ} {m3 : Me (Option R) (List Known)} → found ≡ st.first
      → m3 ≡ (m'.0, (st.word, None) ∷ rest m'.1) → IsSeated c number m → IsSeated c number m3
  won-seated {m3 = m3} hit after s = let (g, (r, n, then, md, l, f)) = t.won hit in
      seated-more s t.by_owner md (emptied st.word t.q r m.1 m' m3 after then)

  -- what a won claim tells of the record that was in the slot
  pub won-made : {io : R} {v : List Known} (g : ℕ) → found ≡ st.first
      → st.first ≡ packed_word (unclaimed_word g) → m'.1 ≡ (st.word, Some io) ∷ rest m'.1
      → v ≡ m'.0
      → EventMade event.Claim st.word (unclaimed_word g) (claimed_word g) (aim_in io)
      (seat_known m.0) (seat_known v)
      × (label io ≡ bound_label st.word g) × Fits io
  won-made {io = io} g hit is first same =
      let (g', (r, n, then, md, l, f)) = t.won hit in
      let eg : g' ≡ g = ap (λ (w : Word). w.generation) (packed_word-injective (unclaimed_word g')
      (unclaimed_word g) (sym n ∙ (hit ∙ is))) in
      let heads : (st.word, Some r) ∷ m.1 ≡ (st.word, Some io) ∷ rest m'.1 = sym
      (ap (λ (z : Me (Option R) (List Known)). z.1) then) ∙ first in
      let er : r ≡ io = same-slot st.word r io (head-same heads) in
      let of : (ℕ × R) → Known → Known → Type 0 =
      λ z p q. EventMade event.Claim st.word (unclaimed_word z.0) (claimed_word z.0) (aim_in z.1) p q
      × (label z.1 ≡ bound_label st.word z.0) × Fits z.1 in
      subst (λ (z : Known × Known). of (g, io) z.0 z.1)
      (λ k. (
        ap seat_known (sym t.by_owner) k,
        ap seat_known (sym (same ∙ ap (λ (z : Me (Option R) (List Known)). z.0) then)) k,
      ))
      (subst (λ (z : ℕ × R). of z t.p t.q) (λ k. (eg k, er k)) (md, l, f))

module _ {R : Type 0} {label : R → Label} {aim_in : R → List ℕ} {Fits : R → Type 0}
    {st : Step (Option R)} {found : ℕ} {m m' : Me (Option R) (List Known)}
    (t : TakesCompleted label aim_in Fits st m found m') where
  pub got-first : (x : Option R) × (m'.1 ≡ (st.word, x) ∷ rest m'.1)
  got-first = (
    Some t.x,
    ap (λ (z : Me (Option R) (List Known)). z.1) t.then ∙ sym
        (ap (λ (z : Me (Option R) (List Known)). (st.word, Some t.x) ∷ rest z.1) t.then),
  )

  pub got-seated : {c : Config} {number : ℕ} {m3 : Me (Option R) (List Known)}
      → m3 ≡ (m'.0, (st.word, None) ∷ rest m'.1) → IsSeated c number m → IsSeated c number m3
  got-seated {m3 = m3} after s =
      seated-more s t.by_owner t.event_made (emptied st.word t.q t.x m.1 m' m3 after t.then)

  -- what taking the result tells of the record that was in the slot
  pub got-told : {io : R} {v : List Known} (g : ℕ)
      → IsInFlight (seat_known m.0) (wait_ref st.word g)
      → 8 * g + 6 ≤ seen_rank (seat_known m.0) st.word → m'.1 ≡ (st.word, Some io) ∷ rest m'.1
      → v ≡ m'.0
      → (class : Class)
      × EventMade event.Local st.word (completed_word class g) (taken_word class g) []
      (seat_known m.0) (seat_known v)
      × (label io ≡ record { handle = st.word; generation = g; ended = class; settled = false })
      × ((a : List ℕ) → IsIn (wait_ref st.word g, a) (seat_known m.0).aims → aim_in io ≡ a)
      × Fits io
  got-told {io = io} g flight saw first same =
      let was : seat_known m.0 ≡ t.p = ap seat_known t.by_owner in
      let eg : t.g ≡ g = t.same g
      (subst (λ (z : Known). IsInFlight z (wait_ref st.word g)) was flight)
      (subst (λ (z : Known). 8 * g + 6 ≤ seen_rank z st.word) was saw) in
      let heads : (st.word, Some t.x) ∷ m.1 ≡ (st.word, Some io) ∷ rest m'.1 = sym
      (ap (λ (z : Me (Option R) (List Known)). z.1) t.then) ∙ first in
      let er : t.x ≡ io = same-slot st.word t.x io (head-same heads) in
      let of : (ℕ × R) → Known → Known → Type 0 =
      λ z p q. (class : Class)
      × EventMade event.Local st.word (completed_word class z.0) (taken_word class z.0) [] p q
      × (label z.1 ≡ record { handle = st.word; generation = z.0; ended = class; settled = false })
      × ((a : List ℕ) → IsIn (wait_ref st.word z.0, a) p.aims → aim_in z.1 ≡ a) × Fits z.1 in
      subst (λ (z : Known × Known). of (g, io) z.0 z.1)
      (λ k. (
        sym was k,
        ap seat_known (sym (same ∙ ap (λ (z : Me (Option R) (List Known)). z.0) t.then)) k,
      ))
      (subst (λ (z : ℕ × R). of z t.p t.q) (λ k. (eg k, er k))
      (t.class, t.event_made, t.label_is, t.aimed, t.fits))

-- the same slots with two records in front
pub same-front : {R : Type 0} (h : ℕ) (a b : R) (cs xs ys : List (ℕ × Option R))
    → cs ≡ (h, Some a) ∷ xs → cs ≡ (h, Some b) ∷ ys → a ≡ b
same-front h a b cs xs ys e f = same-slot h a b (head-same (sym e ∙ f))
