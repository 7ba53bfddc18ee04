use Rattle.scan_rounds.specs.Scans.{IsScan}
use Rattle.scan_tests.proofs.helpers.rounds.list_rounds.Given as goal

abbrev pub invariant-loop-round : goal.invariant-loop-round
invariant-loop-round g l = IsScan g.D.Disk g.W.World l.scan
