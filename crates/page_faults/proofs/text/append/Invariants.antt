use Rattle.std.proofs.Common.{◌≡◌, ◌++◌, take}
use Rattle.page_faults.specs.FaultsText.{fault_lines}
use Rattle.page_faults.proofs.text.append.Given as goal

abbrev pub invariant-loop-fault : goal.invariant-loop-fault
invariant-loop-fault l =
    l.out.items ≡ l.fn.out.items ++ fault_lines l.relation l.block (take l.fault-index l.faults)
