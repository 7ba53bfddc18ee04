use Rattle.std.proofs.Common.{arith, sym}
use Rattle.aio_word.specs.Tokens.{failed_result_count}
use Rattle.read_stream.specs.ActorProgress.{local_mark_count}
use Rattle.scan_rounds.specs.declared.disk_actor.DiskActor.{DiskActor}
use Rattle.std.specs.Prelude.{slice_index_or}
use Rattle.scan_rounds.proofs.ActorsAdvance.{actors_advanced, backends_many, options_kept}
use Rattle.scan_rounds.proofs.ActorsAdvance.{room_falls, still_backends}
use Rattle.scan_rounds.proofs.totals.CountRaised.{raised_within}
use Rattle.scan_rounds.proofs.LeastRoom.{fewer}
use Rattle.scan_rounds.proofs.QueueClosed.{least_as, listed_as, many_as, sum_as}
use Rattle.scan_rounds.proofs.rounds.make_round.Goals as goal

pub list_round-requires-clause-may : goal.list_round-requires-clause-may
list_round-requires-clause-may g c κs within =
    let may = c.requires.may in record {
      fit = may.fit;
      backends = may.ready.backends;
      room = λ i d lt. fewer 64 c.args.counts.now.room
          (slice_index_or c.args.backends.now i d).disk_actor.actor may.room
          (may.ready.room.all_have_room i d lt);
      fresh = may.fresh;
    }

pub close_queue-requires-clause-some : goal.close_queue-requires-clause-some
close_queue-requires-clause-some g c κs within =
    let many = backends_many _ _ _ _ _ _ _ c.list_round.ensures.listed.backends in
    omega (arith, many, c.requires.may.ready.some)

pub close_queue-requires-clause-backends : goal.close_queue-requires-clause-backends
close_queue-requires-clause-backends g c κs within =
    still_backends _ _ _ _ _ _ _ c.list_round.ensures.listed.backends

pub returns-clause-made : goal.returns-clause-made
returns-clause-made g c =
    let may = c.requires.may in
    let listed = c.list_round.ensures.listed in
    let closed = c.close_queue.ensures in
    let same = closed.disk_actors in
    let bs = c.args.backends.now in
    let cs = c.list_round.new.backends in
    let ds = c.close_queue.new.backends in
    let least = c.least_room-counts.ensures.least in
    let many = backends_many _ _ _ _ _ _ _ listed.backends in
    let failed = sum_as (λ (h : DiskActor _ _). failed_result_count h.actor.known.marks) cs ds same in
    let taken = sum_as (λ (h : DiskActor _ _). local_mark_count h.actor.known.marks) cs ds same in
    record {
      ready = record {
        some = omega (arith, many, many_as cs ds same, may.ready.some);
        backends = closed.backends;
        room = least;
        few_unread = raised_within _ _ _ _ _ c.count_unread-counts.ensures may.ready.few_unread
            (omega (arith, failed, listed.unread));
      };
      actors_advanced = rw same (actors_advanced _ _ _ _ _ _ _ listed.backends);
      all_have_options = λ how all. closed.options how (options_kept _ _ _ _ _ _ _ listed.backends
          how all);
      by_place = λ how all. listed_as _ how _ bs cs ds _ _ (omega (arith, many, may.fit)) same
          (listed.by_place how all);
      room = room_falls _ _ _ _ _ _ _ listed.backends _ _ may.ready.backends may.ready.room
          (least_as ds cs _ (sym same) least);
      unread = c.count_unread-counts.ensures;
      results_bound = omega (arith, taken, listed.results_bound);
    }
