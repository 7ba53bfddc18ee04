use Rattle.std.proofs.Common.{◌+◌, [], ◌∷◌, refl, sym, ap, ◌∙◌, subst, arith}
use Rattle.page_check.specs.SynchronousAnswer.{Ending}
use Rattle.read_stream.specs.FailedReads.{MayBeUnread}
use Rattle.read_stream.specs.StreamState.{stream_view}
use Rattle.read_stream.specs.StreamViews.{StreamView, answer_of}
use Rattle.read_stream.proofs.CallersView.{later_by_call, same_stream_later}
use Rattle.example_stream.specs.Items.{StreamCounted}
use Rattle.example_stream.proofs.PagesCounted.{counted_end, counted_none, counted_page, one_page}
use Rattle.example_stream.proofs.items.count_all.Goals as goal

pub loop-more-init : goal.loop-more-init
loop-more-init g c = record {
  of = c.requires.table;
  told = c.requires.told;
  same = (refl, refl, refl);
  is_open = c.requires.is_open;
  stream = refl;
  given = c.requires.none;
  few = omega arith;
  so_far = counted_none _ _ _;
}

pub loop-more-preserved : goal.loop-more-preserved
loop-more-preserved g c =
    let i = c.loop-more.invariant in
    let s : StreamView (Unit {0}) = stream_view (λ r. r) c.loop-more.stream in
    let after = c.next-answer.follows.holds-at-none in
    let same = c.next-answer.ensures.advanced.same in
    let told = c.next-answer.ensures.advanced.told in
    let said = answer_of s c.next-answer.result in
    let many = sym (c.count_page.ensures s.relation) ∙ c.in-Some.is in
    let given = ap (λ (z : StreamView (Unit {0})). z.given) after.view in
    let one = one_page said c.in-Some.more many in
    record {
      of = (same.0 ∙ i.of.0, same.1 ∙ i.of.1);
      told = (told.0 ∙ i.told.0, told.1 ∙ i.told.1);
      same = (same.0 ∙ i.same.0, same.1 ∙ i.same.1, same.2 ∙ i.same.2);
      is_open = after.open_for;
      stream = same_stream_later (stream_view (λ r. r) c.args.stream.now) s _ i.stream
          (later_by_call s _ c.next-answer.new.actor said after.view);
      given = omega (arith, given, one, i.given);
      few = omega arith;
      so_far = subst (λ (z : StreamView (Unit {0})). StreamCounted g.W.World.told z []
          (c.loop-more.items + c.in-Some.more) (c.loop-more.pages + 1)) (sym after.view)
          (counted_page _ _ (MayBeUnread s.actor_was c.next-answer.new.actor.known) _ _ _ _ _ said
          i.given many c.next-answer.ensures.answer.next i.so_far);
    }

pub returns-in_default-clause-counted : goal.returns-in_default-clause-counted
returns-in_default-clause-counted g c =
    let i = c.loop-more.invariant in
    let s : StreamView (Unit {0}) = stream_view (λ r. r) c.loop-more.stream in
    let none = sym (c.count_page.ensures s.relation) ∙ c.in_default.is in
    subst (λ (z : StreamView (Unit {0})). (end : Ending) × StreamCounted g.W.World.told z (end ∷ [])
    c.loop-more.items c.loop-more.pages) i.stream
    (counted_end _ _ (MayBeUnread s.actor_was c.next-answer.new.actor.known) _ _ _ _
    (answer_of s c.next-answer.result) i.given none c.next-answer.ensures.answer.next i.so_far)
