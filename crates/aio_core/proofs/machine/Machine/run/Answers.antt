use Rattle.std.proofs.Common.{◌≡◌, ◌∙◌, get_or, subst, Some}
use Rattle.aio_word.specs.declared.Config.{Config}
use Rattle.aio_word.specs.declared.Event.{Event}
use Rattle.aio_word.specs.declared.Step.TheVariants.{HandOut}
use Rattle.aio_word.specs.Events.{machine_after}
use Rattle.aio_core.proofs.MachineAfterOneMore.{machine-after-one-more}
use Rattle.aio_core.proofs.machine.Machine.run.Goals as goal

abbrev default : Event
default = record { actor = 0; handle = 0; generation = 0; step = HandOut }

pub loop-i-preserved : goal.loop-i-preserved
loop-i-preserved c =
    let did = c.in_default.ensures in
    record {
      config = did.config ∙ c.loop-i.invariant.config;
      lawful_machine = did.lawful_machine;
      new_machine = machine-after-one-more c.args.self.now.config c.args.self.now.machine
          c.loop-i.self.machine
          c.step.new.self.machine c.args.events.now c.loop-i.i default c.loop-i-test.true
          c.loop-i.invariant.new_machine
          (subst (λ (z : Config). machine_after z c.loop-i.self.machine
          (get_or c.args.events.now c.loop-i.i default)
          ≡ Some c.step.new.self.machine) c.loop-i.invariant.config did.new_machine);
    }
