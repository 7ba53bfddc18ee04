-- A read of a stream that has failed shows in the counts of its executor, where one actor executes.
use Rattle.std.proofs.Common.{◌≡◌, ℕ, ◌≤◌, List, [], ◌∷◌, ◌++◌, cond, sym, ◌∙◌, subst, arith}
use Rattle.page_check.specs.SynchronousAnswer.{Entry}
use Rattle.aio_word.specs.declared.Class.TheVariants.{Failed}
use Rattle.aio_word.specs.declared.Kind.TheVariants as kind
use Rattle.aio_word.specs.declared.Known.{Known}
use Rattle.aio_word.specs.declared.Mark.{Mark}
use Rattle.aio_word.specs.declared.WaitRef.{WaitRef}
use Rattle.aio_word.specs.Events.{actor_count, make_mark}
use Rattle.aio_word.specs.Stands.{IsIn}
use Rattle.aio_word.specs.Tokens.{failed_mark_count, is_failed}
use Rattle.aio_word.proofs.ReplacedElement.{sum-in}
use Rattle.aio_handle.specs.ContractViews.{ActorView}
use Rattle.aio_callback.specs.Finishes.{record_reference}
use Rattle.read_stream.specs.ActorProgress.{ActorAdvanced}
use Rattle.read_stream.specs.FailedReads.{MayBeUnread}
use Rattle.page_reader.specs.PagesTaken.{ReadHasFailed}

same_behind : {X : Type 0} (front xs ys : List X) → front ++ xs ≡ front ++ ys → xs ≡ ys
same_behind [] xs ys same = same
same_behind (x ∷ front) xs ys same = same_behind front xs ys (cc)

one_failed : (t : WaitRef) (more : List Mark) → IsIn (make_mark t (kind.Io Failed)) more
    → 1 ≤ failed_mark_count more
one_failed t more i = sum-in (λ (m : Mark). cond (is_failed m.kind) 1 0) more
    (make_mark t (kind.Io Failed)) i

-- an entry is unread only where the executor's count of faults rose
pub read_has_failed : (was : ActorView) (now : Known) (reads reads' faults faults' : ℕ)
    (e : Entry (Unit {0})) → actor_count was.known.config ≡ 1
    → ActorAdvanced was.known now reads reads' faults faults' → MayBeUnread was now e
    → ReadHasFailed faults faults'
read_has_failed was now reads reads' faults faults' e alone w (io, failed) = λ below.
    (let (more, grown, stands) = failed.io_mark_if_alone alone in
    let same = same_behind was.known.marks more w.more (sym grown ∙ w.marks) in
    let one = one_failed (record_reference io) w.more
    (subst (λ (z : List Mark). IsIn (make_mark (record_reference io) (kind.Io Failed)) z) same stands)
    in
    let counted = w.counters_follow.fault_each below in
    omega arith)
