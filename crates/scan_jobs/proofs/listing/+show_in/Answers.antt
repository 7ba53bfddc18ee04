use Rattle.std.proofs.Common.{◌≡◌, ◌≤◌, length, refl, sym, ap, ◌∙◌, arith}
use Rattle.std.proofs.lemmas.List.{length-map}
use Rattle.std.proofs.lemmas.Bool.Decides.{nat_tests}
use Rattle.scan_settings.specs.PageFormats.{page_format}
use Rattle.stream_answer.specs.StreamAnswers.{synchronous_answer}
use Rattle.scan_jobs.proofs.JobsTakePages.{IsFirstTurn, first_fits, first_takes, later_take}
use Rattle.scan_jobs.specs.Jobs.{job_outline}
use Rattle.scan_jobs.proofs.listing.+show_in.Goals as goal

pub show-requires-clause-fit : goal.show-requires-clause-fit
show-requires-clause-fit t c =
    let turn : IsFirstTurn c.in-Some.job.now c.in-Some.later.now c.args.taken =
    grind (arith, nat_tests) in
    first_fits c.args.page_text c.in-Some.job.now c.in-Some.later.now c.args.taken
    (synchronous_answer c.args.relation c.args.answer) turn
    (rw c.in-Some.ensures.cases.0 at c.requires.room)

pub returns-clause-takes : goal.returns-clause-takes
returns-clause-takes t c =
    let turn : IsFirstTurn c.in-Some.job.now c.in-Some.later.now c.args.taken =
    search (arith, nat_tests) in
    rw c.in-Some.ensures.cases.0
    (first_takes (page_format c.args.page_text) c.in-Some.job.now
    (record c.in-Some.job.now {
      text = c.show.new.text;
      warnings = c.show.new.warnings;
      tally = c.show.new.sums;
    })
    c.in-Some.later.now c.args.taken (synchronous_answer c.args.relation c.args.answer)
    c.show.result turn refl c.show.ensures.page c.show.ensures.shown)

pub returns-then-is_whole-clause-takes : goal.returns-then-is_whole-clause-takes
returns-then-is_whole-clause-takes t c =
    let js = c.in-Some.later.now in
    let ks = c.show_in.new.jobs in
    let some : 1 ≤ length js = grind (arith, nat_tests) in
    let whole : c.in-Some.job.now.count ≤ c.args.taken = grind (arith, nat_tests) in
    let same : length ks ≡ length js =
    sym (length-map ks job_outline) ∙ ap length c.show_in.ensures.kept
    ∙ length-map js job_outline in
    rw c.in-Some.ensures.cases.0
    (later_take (page_format c.args.page_text) c.in-Some.job.now js ks c.args.taken
    (synchronous_answer c.args.relation c.args.answer) c.show_in.result some same whole
    c.show_in.ensures.takes)
