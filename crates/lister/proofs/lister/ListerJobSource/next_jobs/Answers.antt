use Rattle.std.proofs.Common.{arith, ap, length, length-append, take, None}
use Rattle.scan_jobs.specs.BlockFilter.{unskipped_entries}
use Rattle.scan_jobs.proofs.UnskippedCount.{none_left_out}
use Rattle.lister.specs.ListerState.{unskipped_job_requests, lister_filter}
use Rattle.request_list.specs.RequestList.{blocks_of_parts}
use Rattle.lister.proofs.JobTextsAppend.{requests_length}
use Rattle.lister.proofs.UnskippedBlocksAppend.{blocks_after_cut}
use Rattle.lister.proofs.lister.ListerJobSource.next_jobs.Goals as goal

pub returns-in-Done-clause-left : goal.returns-in-Done-clause-left
returns-in-Done-clause-left g c =
    let jobs = take c.fill.result c.fill.new.jobs in
    omega (
      arith,
      ap length (blocks_after_cut None jobs c.args.self.now.blocks c.fill.new.blocks
          c.fill.ensures.cut),
      length-append (unskipped_job_requests None jobs) (blocks_of_parts c.fill.new.blocks),
      requests_length None jobs,
      none_left_out jobs,
    )

pub returns-in-Done-clause-unskipped : goal.returns-in-Done-clause-unskipped
returns-in-Done-clause-unskipped g c =
    let jobs = take c.fill.result c.fill.new.jobs in
    let skips = lister_filter c.args.self.now in
    omega (
      arith,
      ap length (blocks_after_cut skips jobs c.args.self.now.blocks c.fill.new.blocks
          c.fill.ensures.cut),
      length-append (unskipped_job_requests skips jobs)
          (unskipped_entries skips (blocks_of_parts c.fill.new.blocks)),
      requests_length skips jobs,
    )
