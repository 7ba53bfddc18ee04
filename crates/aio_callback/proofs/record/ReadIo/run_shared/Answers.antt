use Rattle.std.proofs.Common.{take, arith, inr}
use Rattle.std.specs.List.{length_refill}
use Rattle.read_callbacks.proofs.ChainLowersResult.{good_within}
use Rattle.aio_callback.proofs.record.ReadIo.run_shared.Goals as goal

pub invariant_of-self : goal.invariant_of-self
invariant_of-self c =
    let before = c.self.invariant in
    let r = c.self.inside in
    let pages = c.fill_room.new.pages in
    let chain = c.run_chain-self-inside in
    let marks = c.fill.new.self in
    let room_or_none = length_refill pages.len pages.items chain.new.pages pages.ok.0 in
    let marked = length_refill marks.len marks.items chain.new.marks marks.ok.0 in
    let same = c.fill.ensures.len in
    let size = c.fill_room.ensures.size in
    let room = pages.ok.0 in
    let marks_room = r.marks.ok.0 in
    record {
      few = before.few;
      most = before.most;
      capacity = c.fill_room.ensures.capacity;
      room_or_none = inr (omega arith);
      marks = (let e = before.marks in omega arith);
      within = before.within;
      in_range = before.in_range;
      some = before.some;
      answered = before.answered;
      read = λ ended. omega arith;
      good = λ ended. good_within r.count (take r.id_count r.ids) r.raw c.in-Some.answer
          c.first_result.result chain.result before.answered c.in-Some.is c.first_result.ensures
          chain.ensures.below;
    }
