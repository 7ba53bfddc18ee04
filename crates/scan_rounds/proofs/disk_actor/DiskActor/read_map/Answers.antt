use Rattle.std.proofs.Common.{sym, ap, ◌∙◌}
use Rattle.scan_jobs.proofs.PagesOfMaps.{no_pages}
use Rattle.scan_rounds.proofs.disk_actor.DiskActor.read_map.Goals as goal

pub read_one_by_one-ending-requires-clause-held : goal.read_one_by_one-ending-requires-clause-held
read_one_by_one-ending-requires-clause-held g c κs within =
    no_pages c.args.map.now c.args.warnings.now.items c.requires.none.0 c.requires.none.1

pub returns-clause-read : goal.returns-clause-read
returns-clause-read g c =
    let kept = c.read_one_by_one-ending.ensures.kept in
    let map = c.map-1.given.1 (ap (λ k. k.0) (sym kept)) ∙ c.end_borrow.ensures in
    let warnings = c.warnings-1.given.1 (ap (λ k. k.1) (sym kept)) ∙ c.end_borrow-2.ensures in
    rw (map, ap (λ v. v.items) warnings) c.read_one_by_one-ending.ensures.read
