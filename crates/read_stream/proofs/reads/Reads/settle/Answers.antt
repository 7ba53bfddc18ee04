use Rattle.std.proofs.Common.{rules, ◌≡◌, ◌+◌, [], ap, ◌∙◌, subst, refl}
use Rattle.aio_word.specs.declared.WaitRef.{WaitRef}
use Rattle.aio_word.specs.declared.Known.{Known}
use Rattle.aio_word.specs.declared.Step.TheVariants.{Reclaim}
use Rattle.aio_handle.specs.LifeWords.{taken_word, idle_word}
use Rattle.aio_handle.specs.CallEvents.{EventMade}
use Rattle.aio_callback.specs.ReadIoView.{ReadIoView, ReadFits, after_local}
use Rattle.read_stream.specs.declared.reads.Reads.{Reads}
use Rattle.read_stream.proofs.ReadsMatchRuns.{reads-settled}
use Rattle.read_stream.proofs.ReclaimKeepsIssued.{settled-issued, settled-reading, settled-for}
use Rattle.read_stream.proofs.ReclaimKeepsIssued.{advanced-settling, idle-now}
use Rattle.read_stream.proofs.ContextAdvancedLaws.{context_advanced_by}
use Rattle.read_stream.proofs.reads.Reads.settle.Goals as goal

pub returns : goal.returns
returns g c =
    let p : Known = c.args.context.now.actor.now.known in
    let m : Known = c.wait_own-local.new.actor.known in
    let q : Known = c.reclaim-io.new.actor.known in
    let t : WaitRef = c.args.token in
    let x : ReadIoView = c.wait_own-local.result.1 in
    let y : ReadIoView = c.reclaim-io.result in
    let s : Reads g.row.W.Denot = c.args.self.now in
    let waits = c.wait_own-local.ensures in
    let ends = c.reclaim-io.ensures in
    let held = c.requires.held_by_caller in
    let reclaims : EventMade Reclaim t.handle (taken_word ends.event.0 t.generation)
    (idle_word (t.generation + 1)) [] m q =
    subst (λ (z : WaitRef). EventMade Reclaim z.handle (taken_word ends.event.0 z.generation)
    (idle_word (z.generation + 1)) [] m q) waits.token.0 ends.event.1 in
    let lent : c.record_mut.result.now ≡ x = c.record_mut.ensures.value in
    let is : y ≡ after_local x = ends.record
    ∙ (c.complete_local.ensures.value ∙ ap after_local lent) in
    let fits : ReadFits g.W.World.told g.W.World.relations y =
    rw ends.record (c.complete_local.ensures.fits g.W.World.told g.W.World.relations
    (rw lent waits.record.0)) in
    let advanced = advanced-settling p m q t x.label _ _ _ _ ends.event.0 waits.result_taken
    reclaims in record {
      context_advanced = context_advanced_by c.args.context.now c.reclaim-io.new.actor
          c.args.context.now.method.now c.wait_own-local.new.runner
          (ends.same.0 ∙ waits.same.0, ends.same.1 ∙ waits.same.1, ends.same.2 ∙ waits.same.2)
          waits.told advanced refl;
      issued = settled-issued p m q t x.label _ _ _ _ ends.event.0 waits.result_taken reclaims
          c.args.scope.now g.W.World s c.has_seen_its_marks.ensures
          held.stream_ios held.apart held.issued;
      «record» = settled-reading p m q t x.label _ _ _ _ ends.event.0 waits.result_taken reclaims
          c.args.scope.now g.W.World s x y is refl held.stream_ios
          held.issued fits waits.record.1
          (λ one. rw (← waits.token.0) (waits.sole_actor
          (rw (← c.requires.valid_context.scope.1) one)));
      aim = λ first count for_it. settled-for p m q t x.label _ _ _ _ ends.event.0
          waits.result_taken reclaims c.args.scope.now g.W.World x y
          first count is waits.record.1 for_it;
      all = search rules;
      idle = idle-now p m q t x.label _ _ _ _ ends.event.0 waits.result_taken reclaims
          c.args.context.now.table.now.config
          (ends.same.1 ∙ (waits.same.1 ∙ c.requires.valid_context.table.1))
          c.has_seen_its_marks.ensures;
      runs = λ given runs. reads-settled c.args.scope.now p q s _ given runs advanced.aims refl;
    }
