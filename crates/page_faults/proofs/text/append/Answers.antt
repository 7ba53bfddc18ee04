use Rattle.std.proofs.Common.{◌++◌, ◌∙◌, ℕ, List, take, sym, ap, take_all}
use Rattle.std.proofs.lemmas.List.{append-nil}
use Rattle.page_faults.specs.declared.fault.Fault.TheVariants.{Header}
use Rattle.page_faults.specs.FaultsText.{fault_lines}
use Rattle.page_faults.proofs.FaultLines.{lines_through, lines_step, fault_lines-none, fault_lines-all}
use Rattle.page_faults.proofs.text.append.Goals as goal

pub loop-fault-init : goal.loop-fault-init
loop-fault-init c =
    sym (ap (λ (text : List ℕ). c.args.out.now.items ++ text)
    (fault_lines-none c.args.relation c.args.block c.args.faults.now)
    ∙ append-nil c.args.out.now.items)

pub loop-fault-preserved : goal.loop-fault-preserved
loop-fault-preserved c =
    lines_step c.args.relation c.args.block c.args.faults.now c.loop-fault.fault-index
    (Header 0 0 0 0) c.args.out.now.items c.loop-fault.out.items c.fault_text.new.out.items
    c.loop-fault-test.true c.in_ok-fault_text.ensures.ok c.loop-fault.invariant

pub returns-in_err-fault_text-clause-prefix : goal.returns-in_err-fault_text-clause-prefix
returns-in_err-fault_text-clause-prefix c =
    lines_through c.args.out.now.items
    (fault_lines c.args.relation c.args.block (take c.loop-fault.fault-index c.args.faults.now))
    c.loop-fault.out.items c.fault_text.new.out.items c.loop-fault.invariant
    c.in_err-fault_text.ensures.prefix

pub returns-clause-ok : goal.returns-clause-ok
returns-clause-ok c =
    let faults = c.args.faults.now in
    let index = c.loop-fault.fault-index in
    c.loop-fault.invariant
    ∙ ap (λ (text : List ℕ). c.args.out.now.items ++ text)
    (fault_lines-all c.args.relation c.args.block faults index
    (take_all index faults c.loop-fault-test.false))
