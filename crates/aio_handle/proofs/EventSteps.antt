-- Each event keeps the rule of the table, by what becomes of the slot of its handle: it stays, it
-- goes out, or it goes home.
use Rattle.std.proofs.Common.{◌≡◌, ℕ, ◌+◌, ◌<◌, true, not, List, [], ◌∷◌, get_or, set, refl, sym, ap}
use Rattle.std.proofs.Common.{◌∙◌, subst, arith, Option, None}
use mathlib.Core.Option.{some, none}
use mathlib.Core.Option as maybe
use lib.ListN.{get_elem?}
use Rattle.atomic_table.specs.Table.{State, Me, Act, step, rest, put_back, stepped, carried_after}
use Rattle.atomic_table.specs.Table.{keeps as stays, gives, Valid}
use Rattle.atomic_table.proofs.Lists.{set_again}
use Rattle.aio_word.specs.declared.Class.{Class}
use Rattle.aio_word.specs.declared.Config.{Config}
use Rattle.aio_word.specs.declared.State.TheVariants.{HandedOut}
use Rattle.aio_word.specs.declared.Step.{Step as Event}
use Rattle.aio_word.specs.declared.Step.TheVariants as event
use Rattle.aio_word.specs.declared.Word.{Word}
use Rattle.aio_word.specs.declared.Known.{Known}
use Rattle.aio_word.specs.Words.{packed_word}
use Rattle.aio_word.specs.Events.{handle_count, owner, wait_ref, is_allowed, may_hand_out}
use Rattle.aio_word.proofs.EventRows.{word_before, row_word, row_test}
use Rattle.aio_word.proofs.NoneHandedOut.{all-free}
use Rattle.aio_handle.specs.declared.record.Label.{Label}
use Rattle.aio_handle.specs.TableInvariant.{SlotMatchesWord, TableInvariant}
use Rattle.aio_handle.specs.KnownChanges.{known_after}
use Rattle.aio_handle.specs.CallEvents.{EventMade}
use Rattle.aio_handle.specs.Steps.{StepMakesEvent, KeepsSlots, ReturnsSlot}
use Rattle.aio_handle.proofs.SeatLists.{entry-at, index-below}
use Rattle.aio_handle.proofs.StateAtStep.{StepFinds, refined, ruled-here, known-matches-word}
use Rattle.aio_handle.proofs.StateAtStep.{actor-here, here-in}
use Rattle.aio_handle.proofs.WordFromMarks.{none-some}
use Rattle.aio_handle.proofs.StepOnHandle.NoteEffects.{NoteEffect, note-effect, aim_after, AimFits}
use Rattle.aio_handle.proofs.StepOnHandle.NoteEffects.{OutFits}
use Rattle.aio_handle.proofs.StepOnHandle.StepKeepsInvariant.{invariant-kept, event-made}
use Rattle.aio_handle.proofs.SlotOutNotHome.{slot-out-with-nobody}

-- the event is that of the row of the word that is found
pub record EventFits {R : Type 0} {label : R → Label} {aim_in : R → List ℕ} {Fits : R → Type 0}
    {c : Config} {s : State (Option R) (List Known)} {r : TableInvariant label aim_in Fits c s}
    {id h : ℕ} {p : Known} (f : StepFinds label aim_in Fits c s r id h p) (e : Event)
    (class : Class) (g : ℕ) (a : List ℕ) : Type 0 where
  pub word : f.w ≡ word_before e class g
  pub tested : row_test e g ≡ true
  pub allowed : is_allowed c p.number p.marks h g e ≡ true
  pub out : OutFits e p.out
  pub aim : AimFits e a (ruled-here (refined f (word_before e class g) word)).aim

module _ {R : Type 0} {label : R → Label} {aim_in : R → List ℕ} {Fits : R → Type 0} {c : Config}
    {s : State (Option R) (List Known)} {r : TableInvariant label aim_in Fits c s} {id h : ℕ}
    {p : Known} (f0 : StepFinds label aim_in Fits c s r id h p) (range : h < handle_count c)
    (e : Event) (class : Class) (g : ℕ) (a : List ℕ) (d : EventFits f0 e class g a) where
  abbrev was : Word
  was = word_before e class g

  abbrev now : Word
  now = row_word e class g

  abbrev q : Known
  q = known_after e h was now a p

  abbrev f : StepFinds label aim_in Fits c s r id h p
  f = refined f0 was d.word

  abbrev aim : List ℕ
  aim = (ruled-here f).aim

  nobody-out : p.out ≡ None → (i : ℕ) (v : Word) → get_elem? r.ws i ≡ some v → v.state ≡ HandedOut
      → owner c i ≡ p.number → ⊥
  nobody-out out i v at ho mine =
      let (home, eh) = entry-at s.homes i
      (let x = index-below r.ws i v at in let y = r.words_match_lists.one_per_handle in let z = r.homes in omega arith) in
      let k = (r.handle i v home at eh).known p (here-in f) in
      none-some (wait_ref i v.generation) (sym out ∙ (k.out (sym mine) v.generation).0 (ho, refl))

  free : (x : Event) → OutFits x p.out → may_hand_out c p.number r.ws x ≡ true
  free event.HandOut out = ap not (all-free c p.number 0 r.ws
      (λ i v at mine ho. nobody-out out i v at ho
      (ap (owner c) (let z : i ≡ 0 + i = omega arith in z) ∙ mine)))
  free _ out = refl

  notes : NoteEffect c h r.ws was now e aim (aim_after e a aim) p q
  notes = note-effect c h class g aim a p (actor-here f) range r.ws e (known-matches-word f) d.tested
      d.allowed (free e d.out) d.out d.aim

  pub event-keeps : (home' : maybe.Option (Option R))
      → SlotMatchesWord label aim_in Fits h now (aim_after e a aim) home'
      → TableInvariant label aim_in Fits c
      record {
        words = set s.words h (packed_word now);
        homes = set s.homes h home';
        views = set s.views id (q ∷ []);
      }
  event-keeps home' slot = invariant-kept f range e now a (aim_after e a aim) notes home' slot

  pub event_made : EventMade e h was now a p q
  event_made = event-made f range e now a (aim_after e a aim) notes

  pub found : get_or s.words h 0 ≡ packed_word was
  found = f.found

  abbrev Keeps : ℕ → List (maybe.Option (Option R)) → Type 0
  Keeps n homes = TableInvariant label aim_in Fits c
      record { words = set s.words h n; homes = homes; views = set s.views id (q ∷ []) }

  -- the slot goes out with its value x
  pub slot-goes-out : (n : ℕ) → n ≡ packed_word now → (x : Option R) → f0.home ≡ some x
      → SlotMatchesWord label aim_in Fits h now (aim_after e a aim) none
      → (get_elem? s.homes h ≡ some (some x)) × Keeps n (set s.homes h none)
  slot-goes-out n is x home slot = (
    f0.home_is ∙ ap some home,
    subst (λ (z : ℕ). Keeps z (set s.homes h none)) (sym is) (event-keeps none slot),
  )

  module _ (slots new : ℕ) (me : Me (Option R) (List Known)) (is : new ≡ packed_word now)
      (mine : me.0 ≡ p ∷ []) where
    -- what the step has to give, where it tells T
    abbrev Answers : (ℕ → Me (Option R) (List Known) → Type 0) → Type 0
    Answers T = (v : List Known) × (x : Act (Option R)) × Valid s.homes me.1 x
        × TableInvariant label aim_in Fits c (stepped s h new id me.1 v x)
        × T (get_or s.words h 0) (v, carried_after me.1 x)

    abbrev pub makes-event : (after : List (ℕ × Option R)) → StepMakesEvent e (word_before e class)
        (row_word e class) a after (step slots h new 0 none) me (get_or s.words h 0)
        (q ∷ [], after)
    makes-event after = record {
      p = p;
      q = q;
      g = g;
      by_owner = mine;
      then = refl;
      found = found;
      wrote = is;
      event_made = event_made;
    }

    pub slot-stays : SlotMatchesWord label aim_in Fits h now (aim_after e a aim) f0.home
        → Answers
        (KeepsSlots e (word_before e class) (row_word e class) a (step slots h new 0 none) me)
    slot-stays slot = (
      q ∷ [],
      stays,
      tt,
      subst (λ (z : ℕ × List (maybe.Option (Option R))). Keeps z.0 z.1)
          (λ k. (sym is k, set_again s.homes h f0.home f0.home_is k)) (event-keeps f0.home slot),
      makes-event me.1,
    )

    pub slot-goes-home : (x : Option R) → me.1 ≡ (h, x) ∷ rest me.1
        → get_elem? s.views id ≡ some (p ∷ [])
        → SlotMatchesWord label aim_in Fits h now (aim_after e a aim) (some x) → Answers
        (ReturnsSlot e (word_before e class) (row_word e class) a (step slots h new 0 none) me)
    slot-goes-home x first seat slot = let keep = event-keeps (some x) slot in (
      q ∷ [],
      gives,
      tt,
      subst (λ (z : ℕ × List (maybe.Option (Option R))). Keeps z.0 z.1)
          (λ k. (sym is k, ap (put_back s.homes) (sym first) k)) keep,
      (
        makes-event (rest me.1),
        slot-out-with-nobody label aim_in Fits c s id h (packed_word now) p q x seat range
            (index-below s.homes h f0.home f0.home_is) keep,
      ),
    )
