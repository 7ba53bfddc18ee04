use Rattle.scan_rounds.proofs.WorkersServe.{is_worker}
use Rattle.scan_rounds.proofs.beside.serve_one.Goals as goal

pub run-requires-after_bounds : goal.run-requires-after_bounds
run-requires-after_bounds g c κs within = is_worker _ _ _ _ _ c.requires.may
