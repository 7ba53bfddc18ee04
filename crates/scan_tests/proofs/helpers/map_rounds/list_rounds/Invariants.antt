use Rattle.scan_rounds.specs.Scans.{IsScan}
use Rattle.scan_tests.proofs.helpers.map_rounds.list_rounds.Given as goal

abbrev pub invariant-loop-skip : goal.invariant-loop-skip
invariant-loop-skip g l = IsScan g.D.Disk g.W.World l.scan
