use Rattle.std.proofs.Common.{◌≤◌}
use Rattle.run_report.specs.ErrorLine.{AppendsWarnings, error_stream}
use Rattle.lister.proofs.JobTextsAppend.{FirstListed}
use Rattle.lister.proofs.lister.write_jobs.Given as goal

abbrev pub invariant-loop-job : goal.invariant-loop-job
invariant-loop-job g l = record {
  lists : AppendsWarnings
      (FirstListed l.jobs l.job-index (g.O.Sink.written l.fn.out) (g.O.Sink.written l.out)
      l.fn.sums l.sums)
      (error_stream l.fn.line (g.E.Sink.written l.fn.err) (g.E.Sink.faults l.fn.err))
      (error_stream l.line (g.E.Sink.written l.err) (g.E.Sink.faults l.err));
  later : g.O.Sink.faults l.fn.out ≤ g.O.Sink.faults l.out;
}
