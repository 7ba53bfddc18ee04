use Rattle.std.proofs.Common.{◌≡◌, rules, [], subst, true}
use Rattle.run_report.specs.Outcomes.{can_end_listing}
use Rattle.run_report.specs.declared.report.Outcome.{Outcome}
use Rattle.aioscan_cmd.proofs.ScanCountsAtEnd.{no_reads, no_faults, nothing_counted}
use Rattle.aioscan_cmd.proofs.ScanCountsAtEnd.{scan_refused, scanned_nothing}
use Rattle.run_report.proofs.ErrorTextsAppend.{warns_also, warns_none}
use Rattle.aioscan_cmd.proofs.scan.open_and_list.Goals as goal

pub returns-in-Ok-clause-scanned : goal.returns-in-Ok-clause-scanned
returns-in-Ok-clause-scanned g c =
    let (given, listed, counted) = c.list_disks.ensures.listed in
    let e = c.open_others.ensures in (
      given,
      warns_also _ _ _ _ (λ w lists. record {
        opens = e.later;
        others = (e.length_faults, e.faults, e.reads);
        lists = λ _. lists;
        cannot_open = λ is. absurd (
            let begun = subst (λ (o : Outcome). can_end_listing o ≡ true) is lists.lists.ends_listing
            in cc);
        unread = c.list_disks.ensures.unread;
      }) listed,
      counted,
    )

pub returns-in-Err-Device-clause-scanned : goal.returns-in-Err-Device-clause-scanned
returns-in-Err-Device-clause-scanned g c =
    let e = c.open_others.ensures in
    let disks = c.open_others.new.disks.items in
    let none = no_reads g.S.Disk.Disk _ _ _ disks e.unread in
    rw c.without_reads.ensures (
      λ _. [],
      warns_none _ _ (scan_refused _ _ _ _ _ _ _ _ (e.length_faults, e.faults, e.reads)
          (search rules) (no_faults g.S.Disk.Disk _ _ _ disks e.unread) none),
      nothing_counted _ _ _ _ _ none,
    )

pub returns-in-Err-Memory-clause-scanned : goal.returns-in-Err-Memory-clause-scanned
returns-in-Err-Memory-clause-scanned g c =
    let e = c.open_others.ensures in
    rw c.without_reads-in-Err-Memory.ensures (
      λ _. [],
      warns_none _ _ (scanned_nothing _ _ _ _ _ _ _ _ e.later
          (e.length_faults, e.faults, e.reads)),
      nothing_counted _ _ _ _ _
          (no_reads g.S.Disk.Disk _ _ _ c.open_others.new.disks.items e.unread),
    )
