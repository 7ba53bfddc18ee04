-- The moments before and after a step on one handle, and the machine's step between them.
use Rattle.std.proofs.Common.{◌≡◌, ℕ, ◌<◌, ◌^◌, true, List, ◌∷◌, ◌++◌, length, set, refl, sym}
use Rattle.std.proofs.Common.{ap, ◌∙◌, subst, arith, Option, Some}
use mathlib.Core.Logic.{dite}
use mathlib.Core.Option.{some}
use native.Mathlib.Decide.{ℕ_discrete}
use lib.ListN.{get_elem?}
use Rattle.atomic_table.specs.Table.{State}
use Rattle.atomic_table.proofs.Lists.{set_here, set_else}
use Rattle.aio_word.specs.declared.Config.{Config}
use Rattle.aio_word.specs.declared.Event.{Event as MachineEvent}
use Rattle.aio_word.specs.declared.State.TheVariants.{HandedOut}
use Rattle.aio_word.specs.declared.Step.{Step as Event}
use Rattle.aio_word.specs.declared.Word.{Word}
use Rattle.aio_word.specs.declared.Known.{Known}
use Rattle.aio_word.specs.Events.{Machine, IsReachable, next, owner, word_after, is_allowed}
use Rattle.aio_word.specs.Events.{may_hand_out, machine_after}
use Rattle.aio_word.specs.Stands.{MachineHasParts, IsLawfulMachine, Stands, AtMoment}
use Rattle.aio_word.specs.StandsByRank.{StandsByRank}
use Rattle.aio_word.proofs.ReplacedElement.{in-here}
use Rattle.aio_word.proofs.RanksAgree.{stands-from-ranks}
use Rattle.aio_word.proofs.ReachableIsLawful.{reachable-is-lawful}
use Rattle.aio_word.proofs.StepIsMachineStep.{at-get, machine-keeps-parts}
use Rattle.aio_word.proofs.StepKeepsHandles.{all-handles-kept}
use Rattle.aio_handle.specs.declared.record.Label.{Label}
use Rattle.aio_handle.specs.TableInvariant.{TableInvariant}
use Rattle.aio_handle.specs.KnownChanges.{known_after}
use Rattle.aio_handle.proofs.SeatLists.{index-below}
use Rattle.aio_handle.proofs.StateAtStep.{StepFinds, stood-here, numbered-here, moment-now}
use Rattle.aio_handle.proofs.StepOnHandle.InvariantAfterStep.{same-length}
use Rattle.aio_handle.proofs.StepOnHandle.EventEffects.{ListEffect}

-- a step of the machine from a moment of an actor to its next one
pub record Passes (c : Config) (h : ℕ) (w w' : Word) (e : Event) (p q : Known) : Type 0 where
  pub moment : AtMoment c p h w
  pub then : AtMoment c q h w'
  pub is_step : machine_after c moment.machine
      record { actor = p.number; handle = h; generation = w.generation; step = e }
      ≡ Some then.machine

module _ {R : Type 0} {label : R → Label} {aim_in : R → List ℕ} {Fits : R → Type 0} {c : Config}
    {s : State (Option R) (List Known)} {r : TableInvariant label aim_in Fits c s} {id h : ℕ}
    {p : Known} (f : StepFinds label aim_in Fits c s r id h p) (e : Event) (w' : Word) (a : List ℕ) where
  abbrev front : List Known
  front = f.lying.front

  abbrev back : List Known
  back = f.lying.back

  abbrev w : Word
  w = f.w

  abbrev p1 : Known
  p1 = known_after e h w w' a p

  abbrev happened : MachineEvent
  happened = record { actor = p.number; handle = h; generation = w.generation; step = e }

  module _ (row : word_after w e ≡ Some w')
      (allowed : is_allowed c p.number p.marks h w.generation e ≡ true)
      (free : may_hand_out c p.number r.ws e ≡ true) where
    pub along : (m' : Machine) × (machine_after c r.machine happened ≡ Some m')
        × MachineHasParts c m' (set r.ws h w') (front ++ p1 ∷ back)
    along = machine-keeps-parts c r.machine r.ws front back p p1 happened w w'
        (subst (λ (z : List Known). MachineHasParts c r.machine r.ws z) f.lying.now r.is)
        (numbered-here f)
        refl refl refl f.word refl allowed
        (ap (λ (z : List Word). may_hand_out c p.number z e) r.is.words ∙ free) row

    pub reached-now : IsReachable c along.0
    reached-now = next r.machine happened along.0 r.reached along.1

    stands-now : IsLawfulMachine c along.0
    stands-now =
        let t = stood-here f in
        let lo = t.begun in let hi = t.lawful.bound in
        let small : c.start < 2 ^ 58 = omega arith in
        reachable-is-lawful c small along.0 reached-now

    word-now : get_elem? along.0.words h ≡ some w'
    word-now = ap (λ (z : List Word). get_elem? z h) along.2.words
        ∙ set_here r.ws h w' (index-below r.ws h w f.word)

    -- no other handle of the owner is handed out
    pub alone : w'.state ≡ HandedOut → (i : ℕ) (v : Word) → get_elem? r.ws i ≡ some v
        → v.state ≡ HandedOut → owner c i ≡ owner c h → i ≡ h
    alone out i v at ho same = dite (ℕ_discrete i h) (λ x. x)
        (λ ne. stands-now.words_match_lists.one_out i h v w'
        (ap (λ (z : List Word). get_elem? z i) along.2.words ∙ (set_else r.ws h i w' ne ∙ at))
        word-now ho out same)

    module _ (g : ListEffect c h front back p p1 w w') where
      stood-then : Stands c along.0.words (front ++ p1 ∷ back)
      stood-then = subst (λ (z : List Word). Stands c z (front ++ p1 ∷ back)) (sym along.2.words)
          (stands-from-ranks c (set r.ws h w') (front ++ p1 ∷ back)
          (all-handles-kept c r.ws front back h p p1 w w'
          (subst (λ (z : List Known). StandsByRank c r.ws z) f.lying.now r.words_match_lists) f.word
          g.notes g.words_match_lists alone))

      pub passes : Passes c h w w' e p p1
      passes = record {
        moment = moment-now f;
        then = record {
          machine = along.0;
          parts = front ++ p1 ∷ back;
          reached = reached-now;
          is = record { words = refl; lists = along.2.lists; all = along.2.all };
          words_match_lists = stood-then;
          here = in-here front back p1;
          all = same-length front back p p1 ∙ (sym (ap length f.lying.now) ∙ r.all);
          word = at-get along.0.words h w' word-now;
        };
        is_step = along.1;
      }
