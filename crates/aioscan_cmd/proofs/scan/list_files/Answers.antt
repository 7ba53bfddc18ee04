use Rattle.std.proofs.Common.{◌∙◌, ◌≡◌, ap, length, refl, arith, rules}
use Rattle.aio_disk.specs.Shelf.{shelf_told}
use Rattle.command_line.specs.Command.{command_relations}
use Rattle.run_report.specs.Lengths.{HasAllLengths, LengthsFailed}
use Rattle.run_report.proofs.RefusedRuns.{ran_out_of_memory, ran_refused, ran_without_disk}
use Rattle.aioscan_cmd.proofs.ScanCountsAtEnd.{ended_ran, ended_counted, ended_in_order}
use Rattle.aioscan_cmd.proofs.ScanCountsAtEnd.{ended_by_causes, ended_not_usage, scanned_behind}
use Rattle.run_report.proofs.ErrorTextsAppend.{warns_also, warns_none}
use Rattle.aioscan_cmd.proofs.scan.list_files.Goals as goal

pub returns-in_default-clause-ran : goal.returns-in_default-clause-ran
returns-in_default-clause-ran g c =
    rw c.without_reads.ensures (warns_none _ _ (ran_out_of_memory _ _ _ _))

pub returns-in-Err-Device-clause-ran : goal.returns-in-Err-Device-clause-ran
returns-in-Err-Device-clause-ran g c =
    rw (c.without_reads-in-Err-Device.ensures, c.open.ensures.reads)
    (warns_none _ _ (ran_without_disk _ _ _ _ _))

pub returns-in-Err-Memory-clause-ran : goal.returns-in-Err-Memory-clause-ran
returns-in-Err-Memory-clause-ran g c =
    rw (c.without_reads-in-Err-Memory.ensures, c.open.ensures.reads)
    (warns_none _ _ (ran_out_of_memory _ _ _ _))

pub returns-in-Err-clause-ran : goal.returns-in-Err-clause-ran
returns-in-Err-clause-ran g c =
    let reads : (g.S.Shelf.counts c.take_back.new.self).reads
    ≡ (g.S.Shelf.counts c.args.shelf.now).reads = omega (
      arith,
      c.take_back.ensures.reads,
      c.take_lengths.ensures.reads,
      c.in-Ok-open.ensures.no_reads,
      c.open.ensures.reads,
    ) in
    let failed : LengthsFailed (shelf_told (g.S.Shelf.told c.args.shelf.now) (command_relations
    c.args.command.now)) (g.S.Shelf.segment c.args.shelf.now) (length (command_relations
    c.args.command.now)) c.in-Err.outcome = search (rules, c.in-Err.ensures.lengths) in
    rw (c.without_reads-in-Err.ensures, reads) (warns_none _ _ (ran_refused _ _ _ _ _ _ failed))

pub returns-in_default-with_capacity-clause-ran : goal.returns-in_default-with_capacity-clause-ran
returns-in_default-with_capacity-clause-ran g c =
    let reads : (g.S.Shelf.counts c.take_back-in_default-with_capacity.new.self).reads
    ≡ (g.S.Shelf.counts c.args.shelf.now).reads = omega (
      arith,
      c.take_back-in_default-with_capacity.ensures.reads,
      c.take_lengths.ensures.reads,
      c.in-Ok-open.ensures.no_reads,
      c.open.ensures.reads,
    ) in
    rw (c.without_reads-in_default-with_capacity.ensures, reads)
    (warns_none _ _ (ran_out_of_memory _ _ _ _))

pub returns-clause-ran : goal.returns-clause-ran
returns-clause-ran g c =
    let e = c.open_and_list-disks.ensures in
    let back = c.take_all_back.ensures in
    let opened = c.open.ensures in
    let (given, scanned, counted) = e.scanned in
    let told = ap (λ files. shelf_told files c.in-Ok.relations) opened.told
    ∙ ap (shelf_told (g.S.Shelf.told c.args.shelf.now)) c.in-Ok.ensures in
    let has : HasAllLengths (shelf_told (g.S.Shelf.told c.args.shelf.now) (command_relations
    c.args.command.now)) (g.S.Shelf.segment c.args.shelf.now) (length (command_relations
    c.args.command.now)) c.as_slice.result.now =
    search (rules, c.in-Ok-take_lengths.ensures.lengths) in
    warns_also _ _ _ _ (λ w is. ended_ran _ given _ _ _ _ _ _ _ _ _ w
    (scanned_behind _ given _ _ _ (g.S.Shelf.counts c.args.shelf.now) _ _ _ _ _ _ w opened.later
    opened.length_faults opened.faults opened.reads is) _ back.open_faults _ back.length_faults
    back.faults back.reads _ _ _ counted refl _ _ _ told refl has) scanned

pub returns-clause-causes : goal.returns-clause-causes
returns-clause-causes g c =
    let e = c.open_and_list-disks.ensures in
    let back = c.take_all_back.ensures in
    let opened = c.open.ensures in
    let (given, scanned, counted) = e.scanned in
    let run = scanned_behind _ given _ _ _ (g.S.Shelf.counts c.args.shelf.now) _ _ _ _ _ _ _
    opened.later opened.length_faults opened.faults opened.reads scanned.warnings_hold in
    ended_by_causes _ given _ _ _ _ _ _ _ _ _ _ run _ back.open_faults _ back.length_faults back.faults
    back.reads _ _ e.writes

pub returns-clause-order : goal.returns-clause-order
returns-clause-order g c =
    let e = c.open_and_list-disks.ensures in
    let back = c.take_all_back.ensures in
    let opened = c.open.ensures in
    let (given, scanned, counted) = e.scanned in
    let run = scanned_behind _ given _ _ _ (g.S.Shelf.counts c.args.shelf.now) _ _ _ _ _ _ _
    opened.later opened.length_faults opened.faults opened.reads scanned.warnings_hold in
    ended_in_order _ given _ _ _ _ _ _ _ _ _ _ run _ back.open_faults _ back.length_faults back.faults
    back.reads

pub returns-clause-counted : goal.returns-clause-counted
returns-clause-counted g c =
    let e = c.open_and_list-disks.ensures in
    let back = c.take_all_back.ensures in
    let opened = c.open.ensures in
    let (given, scanned, counted) = e.scanned in
    let run = scanned_behind _ given _ _ _ (g.S.Shelf.counts c.args.shelf.now) _ _ _ _ _ _ _
    opened.later opened.length_faults opened.faults opened.reads scanned.warnings_hold in
    ended_counted _ given _ _ _ _ _ _ _ _ _ _ run _ back.open_faults _ back.length_faults back.faults
    back.reads _ _ _ counted refl

pub returns-clause-words : goal.returns-clause-words
returns-clause-words g c =
    let e = c.open_and_list-disks.ensures in
    let back = c.take_all_back.ensures in
    let opened = c.open.ensures in
    let (given, scanned, counted) = e.scanned in
    let run = scanned_behind _ given _ _ _ (g.S.Shelf.counts c.args.shelf.now) _ _ _ _ _ _ _
    opened.later opened.length_faults opened.faults opened.reads scanned.warnings_hold in
    ended_not_usage _ given _ _ _ _ _ _ _ _ _ _ run _ back.open_faults _ back.length_faults back.faults
    back.reads
