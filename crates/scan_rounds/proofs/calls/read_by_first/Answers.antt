use Rattle.std.proofs.lemmas.List.{get_or_default}
use Rattle.scan_rounds.proofs.ScanAfterMap.{first_read}
use Rattle.scan_rounds.proofs.calls.read_by_first.Goals as goal

pub returns-clause-read : goal.returns-clause-read
returns-clause-read g c =
    first_read _ _ _ _ _ _ _ _ _ _ _ _ c.requires.some
    (get_or_default _ 0 _ _ c.requires.some) c.read_map.ensures.read
