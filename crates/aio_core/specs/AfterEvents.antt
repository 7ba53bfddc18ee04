-- The machine of a program, and the machine after a list of events.
use Rattle.std.specs.Prelude.{ℕ, List, [], ◌∷◌, Option, Some, None}
use Rattle.aio_word.specs.declared.Config.{Config}
use Rattle.aio_word.specs.declared.Event.{Event}
use Rattle.aio_word.specs.Events.{Machine, machine_after, first_machine}

-- what contracts see of a machine: its numbers of backends, handles and runners, and its state
pub record MachineView : Type 0 where
  pub config : Config
  pub machine : Machine

-- the machine that was just opened
abbrev pub opened_machine : ℕ → ℕ → ℕ → ℕ → MachineView
opened_machine backends per_backend runners start =
    let c : Config = record {
      backends = backends;
      per_backend = per_backend;
      runners = runners;
      start = start;
    } in record { config = c; machine = first_machine c }

-- after the events, one by one, as long as each is allowed
abbrev pub after_events : Config → Option Machine → List Event → Option Machine
after_events c None events = None
after_events c (Some m) [] = Some m
after_events c (Some m) (e ∷ events) = after_events c (machine_after c m e) events

-- after all events, if each is allowed
abbrev pub machine_after_all : Config → Machine → List Event → Option Machine
machine_after_all c m events = after_events c (Some m) events
