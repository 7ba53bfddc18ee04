use Rattle.std.proofs.Common.{◌≡◌, ◌++◌, ap, sym, subst, append-nil}
use Rattle.std.specs.Prelude.{OnOk}
use Rattle.heap_scan.specs.Warnings.{warning_line}
use Rattle.vis_map.specs.Bits.{Map}
use Rattle.scan_jobs.proofs.PagesOfMaps.{page_taken}
use Rattle.scan_jobs.proofs.map_pages.MapPagesConsumer.take.Goals as goal

pub returns-in-Page-clause-takes : goal.returns-in-Page-clause-takes
returns-in-Page-clause-takes c =
    rw c.in-Page.is (page_taken c.args.self.now.map.now c.add.new.self
    c.args.self.now.warnings.now.items c.args.self.now.warnings.now.items _
    (ap (λ (m : Map). m.added) c.add.ensures)
    (sym (append-nil c.args.self.now.warnings.now.items)))

pub returns-in-Damaged-clause-takes : goal.returns-in-Damaged-clause-takes
returns-in-Damaged-clause-takes c =
    rw c.in-Damaged.is (page_taken c.args.self.now.map.now c.add-in-Damaged.new.self
    c.args.self.now.warnings.now.items c.args.self.now.warnings.now.items _
    (ap (λ (m : Map). m.added) c.add-in-Damaged.ensures)
    (sym (append-nil c.args.self.now.warnings.now.items)))

pub returns-in-Ok-clause-takes : goal.returns-in-Ok-clause-takes
returns-in-Ok-clause-takes c =
    rw c.in-Zeroed.is (page_taken c.args.self.now.map.now c.add-in-Ok.new.self
    c.args.self.now.warnings.now.items c.warning_text.new.out.items _
    (ap (λ (m : Map). m.added) c.add-in-Ok.ensures)
    (subst (λ r. OnOk r (c.warning_text.new.out.items ≡ c.args.self.now.warnings.now.items
    ++ warning_line c.args.relation c.in-Zeroed.block)) c.in-Ok.is c.warning_text.ensures.ok))
