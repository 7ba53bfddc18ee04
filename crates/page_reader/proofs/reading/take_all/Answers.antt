use Rattle.std.proofs.Common.{◌≡◌, ℕ, ◌+◌, ◌<◌, ◌≤◌, length, refl, sym, ap, ◌∙◌, subst, arith}
use Rattle.std.specs.Prelude.{Option, IfNone, IfSome}
use Rattle.stream_answer.specs.StreamAnswers.{stream_entries}
use Rattle.read_stream.specs.FailedReads.{MayBeUnread}
use Rattle.read_stream.specs.StreamState.{stream_view}
use Rattle.read_stream.specs.StreamViews.{StreamView}
use Rattle.read_stream.proofs.CallersView.{same_stream_later}
use Rattle.read_stream.proofs.ContextAdvancedLaws.{call_nothing, call_then}
use Rattle.page_reader.specs.declared.consumer.Ended.{Ended}
use Rattle.page_reader.specs.PagesTaken.{IfStopped, PagesTakenWhere, TakenSoFar}
use Rattle.page_reader.proofs.PagesInOrder.{nothing_taken}
use Rattle.page_reader.proofs.reading.take_all.Goals as goal

pub pages-init : goal.pages-init
pages-init g c = record {
  of = c.requires.table;
  told = c.requires.told;
  advanced = call_nothing _ _ _;
  is_open = c.requires.is_open;
  stream = refl;
  most = refl;
  few = c.requires.few;
  taken = nothing_taken _ _ _ c.requires.held c.requires.none;
}

pub pages-preserved : goal.pages-preserved
pages-preserved g c =
    let i = c.pages.invariant in
    let a = c.take_next.ensures.advanced in
    record {
      of = (a.same.0 ∙ i.of.0, a.same.1 ∙ i.of.1);
      told = (a.told.0 ∙ i.told.0, a.told.1 ∙ i.told.1);
      advanced = call_then i.advanced a;
      is_open = c.take_next.ensures.is_open;
      stream = same_stream_later (stream_view g.S.BlockSource.left c.args.stream.now)
          (stream_view g.S.BlockSource.left c.pages.stream)
          (stream_view g.S.BlockSource.left c.take_next.new.stream) i.stream
          c.take_next.ensures.stream;
      most = c.take_next.ensures.most ∙ i.most;
      few = subst (λ (n : ℕ). length (stream_view g.S.BlockSource.left c.args.stream.now).blocks ≤ n)
          (sym c.take_next.ensures.most) i.few;
      taken = subst (λ (r : Option Ended). IfNone r
          (TakenSoFar (g.C.PageConsumer.holds c.take_next.new.consumer) g.W.World.told
          (stream_view g.S.BlockSource.left c.take_next.new.stream)))
          c.in_default.is c.take_next.ensures.more;
    }

pub take_next-requires-clause-few : goal.take_next-requires-clause-few
take_next-requires-clause-few g c =
    subst (λ (z : StreamView (Unit {0})). length z.blocks ≤ g.C.PageConsumer.most c.pages.consumer)
    (sym c.pages.invariant.stream) c.pages.invariant.few

pub pages-smaller : goal.pages-smaller
pages-smaller g c =
    let t : StreamView (Unit {0}) = stream_view g.S.BlockSource.left c.pages.stream in
    let next : StreamView (Unit {0}) = stream_view g.S.BlockSource.left c.take_next.new.stream in
    let moved = subst (λ (r : Option Ended). IfNone r ((next.given ≡ t.given + 1)
    × (t.given < length t.blocks))) c.in_default.is c.take_next.ensures.moves in
    let one = moved.0 in
    let within = moved.1 in
    let same = ap (λ (z : StreamView (Unit {0})). length z.blocks) c.pages.invariant.stream in
    omega arith

pub returns-in-Some-clause-advanced : goal.returns-in-Some-clause-advanced
returns-in-Some-clause-advanced g c =
    call_then c.pages.invariant.advanced c.take_next.ensures.advanced

pub returns-in-Some-clause-stream : goal.returns-in-Some-clause-stream
returns-in-Some-clause-stream g c =
    same_stream_later (stream_view g.S.BlockSource.left c.args.stream.now)
    (stream_view g.S.BlockSource.left c.pages.stream)
    (stream_view g.S.BlockSource.left c.take_next.new.stream) c.pages.invariant.stream
    c.take_next.ensures.stream

pub returns-in-Some-clause-most : goal.returns-in-Some-clause-most
returns-in-Some-clause-most g c = c.take_next.ensures.most ∙ c.pages.invariant.most

pub returns-in-Some-clause-taken : goal.returns-in-Some-clause-taken
returns-in-Some-clause-taken g c =
    let now = c.take_next.new.actor.known in
    let holds = g.C.PageConsumer.holds c.take_next.new.consumer in
    let s : StreamView (Unit {0}) = stream_view g.S.BlockSource.left c.pages.stream in
    let here = subst (λ (r : Option Ended). IfSome r (λ e.
    PagesTakenWhere (MayBeUnread s.actor_was now) holds s.settings.rules g.W.World.told
    (stream_entries s.relation s.blocks) e)) c.in-Some.is c.take_next.ensures.ended in
    subst (λ (z : StreamView (Unit {0})). PagesTakenWhere (MayBeUnread z.actor_was now) holds
    z.settings.rules g.W.World.told (stream_entries z.relation z.blocks) c.in-Some.ended)
    c.pages.invariant.stream here

pub returns-in-Some-clause-stopped : goal.returns-in-Some-clause-stopped
returns-in-Some-clause-stopped g c =
    subst (λ (r : Option Ended). IfSome r
    (IfStopped (g.C.PageConsumer.has_enough c.take_next.new.consumer))) c.in-Some.is
    c.take_next.ensures.stopped
