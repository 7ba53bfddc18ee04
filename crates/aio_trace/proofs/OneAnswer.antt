-- A run up to its first event that is not allowed.
use Rattle.std.proofs.Common.{◌≡◌, ℕ, zero, suc, List, [], ◌∷◌, take, refl, sym, ap, ◌∙◌}
use Rattle.std.specs.Prelude.{Option, Some, None, slice_get}
use Rattle.aio_word.specs.declared.Config.{Config}
use Rattle.aio_word.specs.declared.Event.{Event}
use Rattle.aio_word.specs.Events.{Machine, machine_after}
use Rattle.aio_core.specs.AfterEvents.{MachineView, after_events}
use Rattle.aio_trace.specs.declared.replays.ReplayAnswer.{ReplayAnswer}
use Rattle.aio_trace.specs.declared.replays.ReplayAnswer.TheVariants.{Lawful, FirstBad, NoMemory}
use Rattle.aio_trace.specs.Replay.{IsReplay, IsFirstBad, IsAfterAll, AgreesUnlessNoMemory}

module _ (c : Config) where
  nowhere : (events : List Event) → after_events c None events ≡ None
  nowhere [] = refl
  nowhere (e ∷ events) = refl

  -- where the machine has no step after the first i events, it has no state after all
  stuck : (start : Option Machine) (events : List Event) (i : ℕ) (m : Machine) (e : Event)
      → after_events c start (take i events) ≡ Some m → slice_get events i ≡ Some e
      → machine_after c m e ≡ None
      → after_events c start events ≡ None
  stuck None events i m e reached entry bad = nowhere events
  stuck (Some s) [] i m e reached entry bad = absurd (cc)
  stuck (Some s) (x ∷ events) zero m e reached entry bad =
      let here : machine_after c s x ≡ None = cc in
      ap (λ (o : Option Machine). after_events c o events) here ∙ nowhere events
  stuck (Some s) (x ∷ events) (suc i) m e reached entry bad =
      stuck (machine_after c s x) events i m e reached entry bad

  none_some : (m : Machine) → None ≡ Some m → ⊥
  none_some m same = cc

  one_by : (start : Option Machine) (events : List Event) (i j : ℕ) (m n : Machine) (d e : Event)
      → after_events c start (take i events) ≡ Some m → slice_get events i ≡ Some d
      → machine_after c m d ≡ None
      → after_events c start (take j events) ≡ Some n → slice_get events j ≡ Some e
      → machine_after c n e ≡ None
      → i ≡ j
  one_by None events i j m n d e reached entry bad reached_j entry_j bad_j =
      absurd (none_some m (sym (nowhere (take i events)) ∙ reached))
  one_by (Some s) [] i j m n d e reached entry bad reached_j entry_j bad_j = absurd (cc)
  one_by (Some s) (x ∷ events) zero zero m n d e reached entry bad reached_j entry_j bad_j = refl
  one_by (Some s) (x ∷ events) zero (suc j) m n d e reached entry bad reached_j entry_j bad_j =
      let here : machine_after c s x ≡ None = cc in
      absurd (none_some n (sym (nowhere (take j events))
      ∙ ap (λ (o : Option Machine). after_events c o (take j events)) (sym here) ∙ reached_j))
  one_by (Some s) (x ∷ events) (suc i) zero m n d e reached entry bad reached_j entry_j bad_j =
      let here : machine_after c s x ≡ None = cc in
      absurd (none_some m (sym (nowhere (take i events))
      ∙ ap (λ (o : Option Machine). after_events c o (take i events)) (sym here) ∙ reached))
  one_by (Some s) (x ∷ events) (suc i) (suc j) m n d e reached entry bad reached_j entry_j bad_j =
      ap suc
      (one_by (machine_after c s x) events i j m n d e reached entry bad reached_j entry_j bad_j)

-- a run with a first event that is not allowed has no machine after all of it
pub not_after_all : (start end : MachineView) (events : List Event) (i : ℕ)
    → IsFirstBad start events i
    → IsAfterAll start events end → ⊥
not_after_all start end events i bad all =
    none_some start.config end.machine
    (sym (stuck start.config (Some start.machine) events i bad.before bad.event bad.reached
    bad.entry bad.bad) ∙ all.machine)

pub first_bad_is_one : (start : MachineView) (events : List Event) (i j : ℕ)
    → IsFirstBad start events i → IsFirstBad start events j → i ≡ j
first_bad_is_one start events i j is also =
    one_by start.config (Some start.machine) events i j is.before also.before is.event also.event
    is.reached is.entry is.bad also.reached also.entry also.bad

abbrev machine_view : Config → Machine → MachineView
machine_view config machine = record { config = config; machine = machine }

one_end : (start end other : MachineView) (events : List Event) → IsAfterAll start events end
    → IsAfterAll start events other → end ≡ other
one_end start end other events is also =
    let config : end.config ≡ other.config = is.config ∙ sym also.config in
    let some : Some end.machine ≡ Some other.machine = sym is.machine ∙ also.machine in
    let machine : end.machine ≡ other.machine = cc in
    ap (λ (c : Config). machine_view c end.machine) config
    ∙ ap (λ (m : Machine). machine_view other.config m) machine

-- so one answer alone can be right
pub lawful_alone : (start : MachineView) (events : List Event) (answer : ReplayAnswer)
    → IsReplay start events answer → (end : MachineView) → IsAfterAll start events end
    → AgreesUnlessNoMemory answer (Lawful end)
lawful_alone start events (Lawful other) is end all =
    ap Lawful (one_end start other end events is.0 all)
lawful_alone start events (FirstBad i) is end all = absurd (not_after_all start end events i is all)
lawful_alone start events NoMemory is end all = tt

pub bad_alone : (start : MachineView) (events : List Event) (answer : ReplayAnswer)
    → IsReplay start events answer → (i : ℕ) → IsFirstBad start events i
    → AgreesUnlessNoMemory answer (FirstBad i)
bad_alone start events (Lawful end) is i bad =
    absurd (not_after_all start end events i bad is.0)
bad_alone start events (FirstBad j) is i bad =
    ap FirstBad (first_bad_is_one start events j i is bad)
bad_alone start events NoMemory is i bad = tt
