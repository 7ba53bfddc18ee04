use Rattle.std.proofs.Common.{◌∙◌, refl, subst}
use Rattle.crossbeam_queue.specs.Passes.{view}
use Rattle.method_worker.specs.QueueViews.{SeatView, seat_view}
use Rattle.method_worker.specs.SeatCalls.{WasFull}
use Rattle.method_worker.proofs.StepsKeepBalance.{puts, learns, was-full}
use Rattle.method_worker.proofs.queue.SubmitQueue.put.Goals as goal

pub push_as-requires-clause-rule : goal.push_as-requires-clause-rule
push_as-requires-clause-rule g c =
    (puts _ _ _ _ _ c.seat.invariant.1 c.requires.range, learns _ _ _)

pub returns-in-Err-clause-full : goal.returns-in-Err-clause-full
returns-in-Err-clause-full g c =
    let old = c.seat.inside in
    let new = c.push_as.new.pass in
    let (is, same, held) = c.in-Err.ensures.rule in
    let table = c.push_as.ensures.queue.0 in (
      is,
      (λ k. seat_view (table k) old.word_seat.table_id (same k) old.word_seat.me.0)
          ∙ c.seat.view_is,
      subst (λ (s : SeatView). WasFull g.W.World.handles s) c.seat.view_is
          (was-full g.W.World.handles _ (view old.pass) _ refl c.self.invariant.0 held),
    )
