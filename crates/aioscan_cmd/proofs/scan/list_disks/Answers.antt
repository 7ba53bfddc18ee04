use Rattle.std.proofs.Common.{◌∙◌, ap, arith, length, refl, sum_by, []}
use Rattle.aioscan_cmd.proofs.ScanCountsAtEnd.{no_reads, some_fault, nothing_counted}
use Rattle.aioscan_cmd.proofs.ScanCountsAtEnd.{none_by_workers}
use Rattle.run_report.proofs.OutputsAppend.{lists_nothing}
use Rattle.aioscan_cmd.proofs.DiskCountsAdd.{workers_read}
use Rattle.run_report.proofs.ErrorTextsAppend.{warns_none}
use Rattle.aioscan_cmd.proofs.scan.list_disks.Goals as goal

pub returns-clause-unread : goal.returns-clause-unread
returns-clause-unread g c = λ r b is.
    some_fault g.D.Disk.faults c.finish-totals.result.1.items _ _
    c.finish-totals.ensures.finished.each_unread (c.list_asked-outcome.ensures.unread r b is)

pub returns-clause-disks : goal.returns-clause-disks
returns-clause-disks g c =
    c.finish-totals.ensures.finished.disks_are
    ∙ ap length (c.list_asked-outcome.ensures.same.opened ∙ c.in-Ok.ensures.opened.opened)

pub returns-in-Err-clause-disks : goal.returns-in-Err-clause-disks
returns-in-Err-clause-disks g c = ap (λ disks. length disks.items) c.in-Err.ensures.disks_returned

pub returns-clause-listed : goal.returns-clause-listed
returns-clause-listed g c =
    let (given, lists, few) = c.list_asked-outcome.ensures.listed in
    let f = c.finish-totals.ensures.finished in
    let same = c.list_asked-outcome.ensures.same in
    let none = ap (sum_by g.D.Disk.reads) (same.opened ∙ c.in-Ok.ensures.opened.opened)
    ∙ no_reads g.D.Disk g.W.World.told g.W.World.relations c.args.asked.segment c.args.disks.items
    c.requires.unread in (
      given,
      lists,
      record {
        sum = omega (
          arith,
          f.totals_are.sum,
          c.incarnations.ensures,
          c.by_runners.ensures,
          c.by_backends.ensures,
        );
        reads_are = λ below.
            (let each = f.each_read below in omega (arith, each, none, c.incarnations.ensures));
        by_workers_are = λ below.
            workers_read g.D.Disk.reads _ c.finish-totals.result.1.items _ _ _ _
            (ap (λ config. config.backends) (same.config ∙ c.in-Ok.ensures.opened.config)
            ∙ ap (λ settings. settings.backends) c.settings-settings.ensures.settings)
            none c.by_runners.ensures (f.each_worker_read below);
        few = omega (
          arith,
          f.each_taken,
          c.incarnations.ensures,
          few,
          c.in-Ok.ensures.opened.no_results,
        );
        no_workers = none_by_workers _ _ _ _ _ c.settings-settings.ensures.settings
            (ap (λ config. config.runners) (same.config ∙ c.in-Ok.ensures.opened.config))
            f.no_workers c.by_runners.ensures;
      },
    )

pub returns-in-Err-clause-listed : goal.returns-in-Err-clause-listed
unfolding lists_nothing
returns-in-Err-clause-listed g c =
    rw c.without_reads.ensures (
      λ _. [],
      warns_none _ _ (record {
        lists = lists_nothing _ g.W.World.told _ _;
        sums_are = λ _. refl;
      }),
      nothing_counted _ _ _ _ _
          (ap (λ disks. sum_by g.D.Disk.reads disks.items) c.in-Err.ensures.disks_returned
          ∙ no_reads g.D.Disk g.W.World.told g.W.World.relations c.args.asked.segment
          c.args.disks.items c.requires.unread),
    )
