use Rattle.std.proofs.Common.{◌≡◌, length, ap, arith, ◌∙◌}
use Rattle.std.proofs.Math.ListN.{length-set}
use Rattle.scan_jobs.specs.declared.job.Job.{Job}
use Rattle.scan_rounds.proofs.actor_jobs.JobsInSequence.{few_jobs}
use Rattle.scan_jobs.proofs.JobsRefused.{none_unread_refused, one_taken, refused_follows}
use Rattle.scan_rounds.proofs.run_shares.refuse_jobs.Goals as goal

pub loop-jobs-preserved : goal.loop-jobs-preserved
loop-jobs-preserved g c =
    let was = c.loop-jobs.invariant in
    let asked = c.next_jobs.ensures in
    let finished = c.finish_jobs.ensures in
    let met = g.met.A.JobSource in
    let some = c.if-next_jobs-eq0.false in
    let few = asked.few.0 in
    let one : length c.next_jobs.new.jobs ≡ 1 = asked.few.1 ∙ was.one in
    let none = none_unread_refused c.next_jobs.new.jobs c.index-jobs-0.result one in
    record {
      one = omega (arith, length-set {A = Job});
      left = omega (arith, finished.left, asked.left, was.left);
      unskipped = omega (arith, finished.unskipped, asked.unskipped, was.unskipped);
      unread = omega (arith, finished.unread, asked.unread, was.unread, none);
      filter_same = finished.block_filter ∙ (asked.block_filter ∙ was.filter_same);
      options_same = finished.options ∙ (asked.options ∙ was.options_same);
      source_follows = refused_follows g.W.World g.A.JobSource met.giving_none_follows
          met.follows_on c.args.job_source.now c.loop-jobs.job_source c.next_jobs.new.self
          c.finish_jobs.new.self c.next_jobs.result c.next_jobs.new.jobs c.index-jobs-0.result
          (omega arith) one asked.fresh asked.gives_jobs finished.follows was.source_follows;
    }

pub loop-jobs-smaller : goal.loop-jobs-smaller
loop-jobs-smaller g c =
    let was = c.loop-jobs.invariant in
    let asked = c.next_jobs.ensures in
    let some = c.if-next_jobs-eq0.false in
    let few = asked.few.0 in
    let one : length c.next_jobs.new.jobs ≡ 1 = asked.few.1 ∙ was.one in
    let all = one_taken c.next_jobs.result c.next_jobs.new.jobs (omega arith) one in
    let blocks = few_jobs g.W.World.relations _ asked.fresh in
    let long = ap length all in
    omega (arith, blocks, asked.left, c.finish_jobs.ensures.left)

pub returns-then-not-finish_jobs : goal.returns-then-not-finish_jobs
returns-then-not-finish_jobs g c =
    let was = c.loop-jobs.invariant in
    let asked = c.next_jobs.ensures in
    let finished = c.finish_jobs.ensures in
    let met = g.met.A.JobSource in
    let some = c.if-next_jobs-eq0.false in
    let few = asked.few.0 in
    let one : length c.next_jobs.new.jobs ≡ 1 = asked.few.1 ∙ was.one in
    let none = none_unread_refused c.next_jobs.new.jobs c.index-jobs-0.result one in
    record {
      refused = record {
        left = omega (arith, finished.left, asked.left, was.left);
        unskipped = omega (arith, finished.unskipped, asked.unskipped, was.unskipped);
        unread = omega (arith, finished.unread, asked.unread, was.unread, none);
        filter_same = finished.block_filter ∙ (asked.block_filter ∙ was.filter_same);
        options_same = finished.options ∙ (asked.options ∙ was.options_same);
        source_follows = refused_follows g.W.World g.A.JobSource met.giving_none_follows
            met.follows_on c.args.job_source.now c.loop-jobs.job_source c.next_jobs.new.self
            c.finish_jobs.new.self c.next_jobs.result c.next_jobs.new.jobs c.index-jobs-0.result
            (omega arith) one asked.fresh asked.gives_jobs finished.follows was.source_follows;
        over = finished.over c.if-not-finish_jobs.true;
      };
    }
