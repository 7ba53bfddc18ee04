use Rattle.std.proofs.Common.{Some}
use Rattle.scan_rounds.proofs.disk_actor.DiskActor.read.Given as goal

abbrev pub ghosts-read_by_ring : goal.ghosts-read_by_ring
ghosts-read_by_ring g a = record { queue = Some a.shared.now.queue }
