use Rattle.std.proofs.Common.{◌≡◌, ◌∙◌, arith, ap, refl, rules, length, List}
use Rattle.std.specs.Vec.{with_items}
use Rattle.std.proofs.lemmas.List.{with_items_is}
use Rattle.scan_jobs.specs.BlockFilter.{filter_of_skipping}
use Rattle.scan_rounds.specs.Shares.{share_jobs}
use Rattle.scan_jobs.specs.declared.job.Job.{Job}
use Rattle.scan_rounds.specs.declared.share.Share.{Share}
use Rattle.scan_rounds.proofs.share_laws.SharesExchange.{may_go_out, one_exchanged, one_given}
use Rattle.scan_rounds.proofs.share_laws.SharesOfClients.{request_of}
use Rattle.scan_rounds.proofs.exchange.exchange_share.Goals as goal

pub first_blocks-blocks-requires : goal.first_blocks-blocks-requires
first_blocks-blocks-requires g c =
    let items = with_items_is c.swap.new.x c.ask_jobs-count.new.places
    (c.ask_jobs-count.ensures.places ∙ c.as_mut_slice.ensures.len) in
    let asked = c.ask_jobs-count.ensures.asked in
    let same : c.as_slice.result.now ≡ c.ask_jobs-count.new.places = c.as_slice.ensures.value
    ∙ items in
    (g.W.World.relations, rw same asked.fresh, omega (arith, ap length same, asked.few))

pub put-requires-clause-may : goal.put-requires-clause-may
put-requires-clause-may g c =
    let (s, is) = request_of c.args.client.now.requested c.requires.holds in
    let gave : List Job = c.ask_jobs-count.new.places in
    let y : Share g.row.W.Denot g.row.D.Denot = c.take_share-backend.result in
    let r : Share g.row.W.Denot g.row.D.Denot = record {
      backend = y.backend;
      jobs = with_items c.swap.new.x gave;
      count = c.ask_jobs-count.result;
    } in
    let items : r.jobs.items ≡ gave = with_items_is c.swap.new.x gave
    (c.ask_jobs-count.ensures.places ∙ c.as_mut_slice.ensures.len) in
    rw c.requires.terms.0 (may_go_out _ _ _ _ g.A.JobSource s y r c.args.progress.now _ _ gave
    c.takes_back-wanted.result (filter_of_skipping c.args.by_map) (c.requires.stands s is)
    (c.take_share-backend.ensures.taken s is) c.ask_jobs-count.ensures.asked refl items)

pub returns-clause-exchanged : goal.returns-clause-exchanged
returns-clause-exchanged g c = λ s is.
    (let gave : List Job = c.ask_jobs-count.new.places in
    let came : List Job = c.split_at.result.0.now in
    let y : Share g.row.W.Denot g.row.D.Denot = c.take_share-backend.result in
    let r : Share g.row.W.Denot g.row.D.Denot = record {
      backend = y.backend;
      jobs = with_items c.swap.new.x gave;
      count = c.ask_jobs-count.result;
    } in
    let many : length gave ≡ length c.args.progress.now.spare.items = search rules in
    let items : r.jobs.items ≡ gave = with_items_is c.swap.new.x gave
    (c.ask_jobs-count.ensures.places ∙ c.as_mut_slice.ensures.len) in
    let back : came ≡ share_jobs y = search rules in
    let asked = c.ask_jobs-count.ensures.asked in
    let finished = c.finish_share.ensures.finished in
    let more = c.count_unread.ensures in (
      r,
      c.put.ensures.requested,
      one_exchanged _ _ _ _ g.A.JobSource s y r c.args.progress.now _ _ gave
          c.takes_back-wanted.result (filter_of_skipping c.args.by_map)
          (c.requires.stands s is) (c.take_share-backend.ensures.taken s is) asked refl items
          _ came finished many (search rules) back c.requires.filter c.takes_back-wanted.ensures.wanted
          more,
      one_given _ _ _ _ g.A.JobSource s y r c.args.progress.now _ _ gave
          c.takes_back-wanted.result (filter_of_skipping c.args.by_map)
          (c.requires.stands s is) (c.take_share-backend.ensures.taken s is) asked refl items
          _ came finished many (search rules) back c.requires.filter c.takes_back-wanted.ensures.wanted
          more c.first_blocks-blocks.result c.first_blocks-blocks.ensures.none
          c.first_blocks-blocks.ensures.some,
    ))
