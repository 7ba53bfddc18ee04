-- What each step on a word tells.
use Rattle.std.specs.Prelude.{◌≡◌, ◌≢◌, ℕ, ◌+◌, ◌*◌, ◌≤◌, false, List, [], ◌∷◌, Option, Some, None}
use Rattle.atomic_table.specs.Table.{Me, Step, rest}
use Rattle.aio_word.specs.declared.Step.{Step as Event}
use Rattle.aio_word.specs.declared.Word.{Word}
use Rattle.aio_word.specs.declared.Class.{Class}
use Rattle.aio_word.specs.declared.Known.{Known}
use Rattle.aio_word.specs.Words.{packed_word}
use Rattle.aio_word.specs.Events.{wait_ref}
use Rattle.aio_word.specs.Stands.{IsIn, seen_rank}
use Rattle.aio_word.specs.Tokens.{IsInFlight}
use Rattle.aio_handle.specs.declared.record.Label.{Label}
use Rattle.aio_handle.specs.Labels.{bound_label}
use Rattle.aio_handle.specs.LifeWords.{idle_word, handed_out_word, staged_word, unclaimed_word}
use Rattle.aio_handle.specs.LifeWords.{claimed_word, executed_word, completed_word, taken_word}
use Rattle.aio_handle.specs.CallEvents.{EventMade, WordLoaded}
use Rattle.aio_handle.specs.Seats.{SlotIsOut}
use Rattle.aio_word.specs.declared.Step.TheVariants as step

-- a step makes the event on its handle, whose word goes from one to the other, and its seat has
-- these slots afterwards
pub record StepMakesEvent {S : Type 0} (e : Event) (from to : ℕ → Word) (aim : List ℕ)
    (slots : List (ℕ × S)) (st : Step S) (m : Me S (List Known)) (n : ℕ)
    (m' : Me S (List Known)) : Type 0 where
  pub p : Known
  pub q : Known
  pub g : ℕ
  pub by_owner : m.0 ≡ p ∷ []
  pub then : m' ≡ (q ∷ [], slots)
  pub found : n ≡ packed_word (from g)
  pub wrote : st.first ≡ packed_word (to g)
  pub event_made : EventMade e st.word (from g) (to g) aim p q

-- a step that moves no slot
abbrev pub KeepsSlots : {S : Type 0} → Event → (ℕ → Word) → (ℕ → Word) → List ℕ → Step S
    → Me S (List Known) → ℕ → Me S (List Known) → Type 0
KeepsSlots e from to aim st m n m' = StepMakesEvent e from to aim m.1 st m n m'

abbrev pub Executes : {S : Type 0} → Step S → Me S (List Known) → ℕ → Me S (List Known) → Type 0
Executes st m n m' = (class : Class)
    × KeepsSlots (step.Io class) claimed_word (executed_word class) [] st m n m'

-- a load
abbrev pub NumberLoaded : ℕ → ℕ → Known → Known → Type 0
NumberLoaded h found p q = (w : Word) × (packed_word w ≡ found) × WordLoaded h w p q

pub record StepLoadsWord {S : Type 0} (st : Step S) (m : Me S (List Known)) (n : ℕ)
    (m' : Me S (List Known)) : Type 0 where
  pub p : Known
  pub q : Known
  pub by_owner : m.0 ≡ p ∷ []
  pub then : m' ≡ (q ∷ [], m.1)
  pub loaded : NumberLoaded st.word n p q

-- the handle is handed out, and its empty slot comes with it
abbrev pub HandsOut : {R : Type 0} → Step (Option R) → Me (Option R) (List Known) → ℕ
    → Me (Option R) (List Known) → Type 0
HandsOut {R} st m n m' =
    StepMakesEvent step.HandOut idle_word handed_out_word [] ((st.word, None) ∷ m.1) st m n m'

-- the slot goes home with its handle
abbrev pub ReturnsSlot : {S : Type 0} → Event → (ℕ → Word) → (ℕ → Word) → List ℕ → Step S
    → Me S (List Known) → ℕ → Me S (List Known) → Type 0
ReturnsSlot e from to aim st m n m' =
    (d : StepMakesEvent e from to aim (rest m.1) st m n m') × (SlotIsOut d.q st.word → ⊥)

-- the same for an empty slot
abbrev pub Releases : {S : Type 0} → Step S → Me S (List Known) → ℕ → Me S (List Known) → Type 0
Releases = ReturnsSlot step.Release handed_out_word idle_word []

abbrev pub Reclaims : {S : Type 0} → Step S → Me S (List Known) → ℕ → Me S (List Known) → Type 0
Reclaims st m n m' = (class : Class)
    × ReturnsSlot step.Reclaim (taken_word class) (λ g. idle_word (g + 1)) [] st m n m'

-- the record that lies in the seat's first slot goes home with its handle
abbrev pub Submits : {R : Type 0} → (R → List ℕ) → Step (Option R) → Me (Option R) (List Known) → ℕ
    → Me (Option R) (List Known) → Type 0
Submits {R} aim_in st m n m' = (r : R) × (m.1 ≡ (st.word, Some r) ∷ rest m.1)
    × ReturnsSlot step.Submit staged_word unclaimed_word (aim_in r) st m n m'

abbrev pub Shares : {R : Type 0} → Step (Option R) → Me (Option R) (List Known) → ℕ
    → Me (Option R) (List Known) → Type 0
Shares {R} st m n m' = (class : Class)
    × ReturnsSlot step.Shared (executed_word class) (completed_word class) [] st m n m'

module _ {R : Type 0} (label : R → Label) (aim_in : R → List ℕ) (Fits : R → Type 0) where
  -- the record of this incarnation was taken out of its slot
  abbrev pub TakesRecord : ℕ → ℕ → ℕ → Me (Option R) (List Known) → Known → Known
      → Me (Option R) (List Known) → Type 0
  TakesRecord h g found m p q m' = (r : R) × (found ≡ packed_word (unclaimed_word g))
      × (m' ≡ (q ∷ [], (h, Some r) ∷ m.1))
      × EventMade step.Claim h (unclaimed_word g) (claimed_word g) (aim_in r) p q
      × (label r ≡ bound_label h g) × Fits r

  -- the found word was the expected one, and the record was taken; or it was another
  pub record Claims (st : Step (Option R)) (m : Me (Option R) (List Known)) (n : ℕ)
      (m' : Me (Option R) (List Known)) : Type 0 where
    pub p : Known
    pub q : Known
    pub by_owner : m.0 ≡ p ∷ []
    pub won : n ≡ st.first → (g : ℕ) × TakesRecord st.word g n m p q m'
    pub lost : n ≢ st.first → (m' ≡ (q ∷ [], m.1)) × NumberLoaded st.word n p q

  -- the result was taken: the word went up by one, and kept its class
  pub record TakesCompleted (st : Step (Option R)) (m : Me (Option R) (List Known)) (n : ℕ)
      (m' : Me (Option R) (List Known)) : Type 0 where
    pub p : Known
    pub q : Known
    pub g : ℕ
    pub class : Class
    pub x : R
    pub by_owner : m.0 ≡ p ∷ []
    pub then : m' ≡ (q ∷ [], (st.word, Some x) ∷ m.1)
    pub found : n ≡ packed_word (completed_word class g)
    pub event_made : EventMade step.Local st.word (completed_word class g) (taken_word class g) [] p q
    pub label_is : label x ≡
        record { handle = st.word; generation = g; ended = class; settled = false }
    pub aimed : (a : List ℕ) → IsIn (wait_ref st.word g, a) p.aims → aim_in x ≡ a
    pub fits : Fits x
    pub same : (n : ℕ) → IsInFlight p (wait_ref st.word n) → 8 * n + 6 ≤ seen_rank p st.word
        → g ≡ n
