use Rattle.std.proofs.Common.{◌≡◌, refl, ◌∙◌, ◌++◌, ℕ, List, sym, ap, subst, arith, length, length-append, take}
use Rattle.std.proofs.Math.Seq.{take-append_seam}
use Rattle.std.proofs.lemmas.List.{with_items_is}
use Rattle.scan_jobs.specs.declared.job.Job.{Job}
use Rattle.scan_rounds.proofs.ListPairs.{zip-at, zip-length}
use Rattle.scan_rounds.proofs.share.list_share.Goals as goal

pub returns : goal.returns
returns g c =
    let did = c.do_jobs.ensures.done in
    let cut = c.split_at_mut-asked.ensures in
    let count : ℕ = c.args.share.count in
    let ks : List Job = c.do_jobs.new.jobs in
    let rest : List Job = c.split_at_mut-asked.result.1.now in
    let as_many = zip-length _ _ _ did.listed in
    let long : length ks ≡ count = as_many ∙ cut.front_len in
    let places : length (ks ++ rest) ≡ c.args.share.jobs.len =
    omega (
      arith,
      long,
      length-append ks rest,
      cut.back_len,
      cut.front_len,
      c.requires.may.fits,
      c.as_mut_slice.ensures.len,
    ) in
    let items = with_items_is c.args.share.jobs (ks ++ rest) places in
    let listed : take count (ks ++ rest) ≡ ks =
    subst (λ n. take n (ks ++ rest) ≡ ks) long (take-append_seam ks rest) in
    let asked : c.split_at_mut-asked.result.0.now ≡ take count c.args.share.jobs.items =
    cut.front ∙ ap (take count) c.as_mut_slice.ensures.value in
    record {
      listed = record {
        spent = record {
          backend = rw (sym cut.front_len) did.backend;
          results_bound = rw (sym asked) did.results_bound;
          unread = rw (items, listed) did.unread;
          count_same = refl;
          places_same = rw items
              (omega (
                arith,
                long,
                length-append ks rest,
                cut.back_len,
                cut.front_len,
                c.requires.may.fits,
                c.as_mut_slice.ensures.len,
              ));
        };
        answered = rw (items, listed, sym asked) (record {
          as_many = as_many;
          each = λ i j lt. zip-at _ _ _ i j j did.listed lt;
        });
      };
    }
