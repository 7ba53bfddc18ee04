-- What the replay of a run answers.
use Rattle.std.specs.Prelude.{◌≡◌, ℕ, List, take, Some, None, slice_get, ⊤}
use Rattle.aio_word.specs.declared.Event.{Event}
use Rattle.aio_word.specs.Events.{Machine, machine_after}
use Rattle.aio_word.specs.Stands.{IsLawfulMachine}
use Rattle.aio_core.specs.AfterEvents.{MachineView, machine_after_all}
use Rattle.aio_trace.specs.declared.replays.ReplayAnswer.{ReplayAnswer}
use Rattle.aio_trace.specs.declared.replays.ReplayAnswer.TheVariants.{Lawful, FirstBad, NoMemory}

-- event i is the first that the machine does not allow: it allows those before it, one by one, and
-- has no such step after them
pub record IsFirstBad (start : MachineView) (events : List Event) (i : ℕ) : Type 0 where
  pub before : Machine
  pub reached : machine_after_all start.config start.machine (take i events) ≡ Some before
  pub event : Event
  pub entry : slice_get events i ≡ Some event
  pub bad : machine_after start.config before event ≡ None

-- each event is allowed, one by one, and this is the machine after them
pub record IsAfterAll (start : MachineView) (events : List Event) (end : MachineView) : Type 0 where
  pub config : end.config ≡ start.config
  pub machine : machine_after_all start.config start.machine events ≡ Some end.machine

-- the machine after all events, whose lists stand for its words; or the first event that is not
-- allowed
abbrev pub IsReplay : MachineView → List Event → ReplayAnswer → Type 0
IsReplay start events (Lawful end) =
    IsAfterAll start events end × IsLawfulMachine end.config end.machine
IsReplay start events (FirstBad i) = IsFirstBad start events i
IsReplay start events NoMemory = ⊤

-- this is the answer, if there was memory
abbrev pub AgreesUnlessNoMemory : ReplayAnswer → ReplayAnswer → Type 0
AgreesUnlessNoMemory NoMemory answer = ⊤
AgreesUnlessNoMemory (Lawful end) answer = Lawful end ≡ answer
AgreesUnlessNoMemory (FirstBad i) answer = FirstBad i ≡ answer
