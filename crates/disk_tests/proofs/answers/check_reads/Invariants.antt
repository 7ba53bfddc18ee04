use Rattle.std.proofs.Common.{◌≡◌}
use Rattle.disk_tests.proofs.answers.check_reads.Given as goal

-- the disk has the relations that it had
abbrev pub invariant-loop-asked : goal.invariant-loop-asked
invariant-loop-asked g l = g.D.Disk.relations l.disk ≡ g.D.Disk.relations l.fn.disk
