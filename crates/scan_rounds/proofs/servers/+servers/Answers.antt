use Rattle.std.proofs.Common.{rules}
use Rattle.scan_jobs.specs.BlockFilter.{filter_of_skipping}
use Rattle.scan_rounds.specs.Shares.{AreTermsOf}
use Rattle.scan_rounds.proofs.ListPairs.{all_split}
use Rattle.scan_rounds.proofs.servers.+servers.Goals as goal

pub join-requires-after_bounds : goal.join-requires-after_bounds
join-requires-after_bounds g t c κs within =
    let both = all_split c.in-Some.first.now _ _ c.in-Some.ensures.cases.0
    (λ h. AreTermsOf h.key c.args.shared.now (filter_of_skipping c.args.by_map.now))
    c.requires.terms in
    let first = both.0 in
    let others = both.1 in
    search (rules, first, others)
