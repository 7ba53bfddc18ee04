use Rattle.std.proofs.Common.{◌≡◌, Some, take}
use Rattle.aio_word.specs.Stands.{IsLawfulMachine}
use Rattle.aio_core.specs.AfterEvents.{machine_after_all}
use Rattle.aio_core.proofs.machine.Machine.run.Given as goal

abbrev pub invariant-loop-i : goal.invariant-loop-i
invariant-loop-i l = record {
  config : l.self.config ≡ l.fn.self.config;
  lawful_machine : IsLawfulMachine l.self.config l.self.machine;
  new_machine : machine_after_all l.fn.self.config l.fn.self.machine (take l.i l.events)
      ≡ Some l.self.machine;
}
