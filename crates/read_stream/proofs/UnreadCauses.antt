-- Where an answer may be Unread: more so after more marks, and only where a failed result stands.
use Rattle.std.proofs.Common.{◌≡◌, ℕ, ◌+◌, ◌≤◌, List, ◌++◌, cond, ap, arith}
use Rattle.std.proofs.lemmas.List.Sums.{sum_by-append}
use Rattle.std.specs.Prelude.{Option}
use Rattle.page_check.specs.SynchronousAnswer.{Reading}
use Rattle.page_check.specs.Told.{Told}
use Rattle.page_check.specs.SynchronousAnswer.{Entry, Ending, End, Invalid, PastEnd, Unread}
use Rattle.page_check.specs.IsAnswer.{IsEnding, IsNext, Next, Page, Stop}
use Rattle.aio_word.specs.declared.Class.TheVariants.{Failed}
use Rattle.aio_word.specs.declared.Kind.TheVariants as kind
use Rattle.aio_word.specs.declared.Known.{Known}
use Rattle.aio_word.specs.declared.Mark.{Mark}
use Rattle.aio_word.specs.declared.WaitRef.{WaitRef}
use Rattle.aio_word.specs.Events.{make_mark}
use Rattle.aio_word.specs.Stands.{IsIn}
use Rattle.aio_word.specs.Tokens.{failed_result_count, is_failed_result}
use Rattle.aio_word.proofs.ReplacedElement.{sum-in}
use Rattle.aio_handle.specs.ContractViews.{ActorView}
use Rattle.aio_callback.specs.ReadIoView.{ReadIoView}
use Rattle.read_stream.specs.FailedReads.{IsFailedRead, MayBeUnread}
use Rattle.read_stream.specs.StreamViews.{StreamView, HasNoFailedRead, IsStreamAnswer}
use Rattle.read_stream.specs.StreamViews.{IsSynchronousAnswer}
use Rattle.read_stream.specs.ActorProgress.{ActorAdvanced}
use Rattle.read_stream.proofs.ActorAdvancedLaws.{since_later}

pub results_more : (xs ys : List Mark)
    → failed_result_count (xs ++ ys) ≡ failed_result_count xs + failed_result_count ys
results_more xs ys = sum_by-append (λ (m : Mark). cond (is_failed_result m.kind) 1 0) xs ys

failed_one : (p q : Known) (t : WaitRef) (more : List Mark) → q.marks ≡ p.marks ++ more
    → IsIn (make_mark t (kind.Local Failed)) more
    → failed_result_count p.marks + 1 ≤ failed_result_count q.marks
failed_one p q t more grown i =
    let one = sum-in (λ (m : Mark). cond (is_failed_result m.kind) 1 0) more
    (make_mark t (kind.Local Failed)) i in
    let all = results_more p.marks more in
    let same : failed_result_count q.marks ≡ failed_result_count (p.marks ++ more) =
    ap failed_result_count grown in
    omega arith

-- a read that failed once has failed after more
pub failed_later : (was : ActorView) (p q : Known) (relation block : ℕ) (io : ReadIoView)
    (reads reads' faults faults' : ℕ) → ActorAdvanced p q reads reads' faults faults'
    → IsFailedRead was p relation block io → IsFailedRead was q relation block io
failed_later was p q relation block io reads reads' faults faults' w f = record {
  relation_is = f.relation_is;
  first = f.first;
  class_is = f.class_is;
  was_submitted = w.aims _ f.was_submitted;
  local_mark = since_later was.known p q _ reads reads' faults faults' f.local_mark w;
  io_mark_if_alone = λ one. since_later was.known p q _ reads reads' faults faults'
      (f.io_mark_if_alone one) w;
}

module _ {P : Type 0} where
  -- what may be unread may be so after more
  pub may_later : (was : ActorView) (p q : Known) (reads reads' faults faults' : ℕ)
      → ActorAdvanced p q reads reads' faults faults' → (e : Entry P) → MayBeUnread was p e
      → MayBeUnread was q e
  may_later was p q reads reads' faults faults' w e (io, f) =
      (io, failed_later was p q e.relation e.block io reads reads' faults faults' w f)

  pub may_counted : (was : ActorView) (q : Known) (e : Entry P) → MayBeUnread was q e
      → failed_result_count was.known.marks + 1 ≤ failed_result_count q.marks
  may_counted was q e (io, f) =
      failed_one was.known q _ f.local_mark.0 f.local_mark.1 f.local_mark.2

  pub ending_wider : (found : Reading) (may may' : Entry P → Type 0)
      (entries : List (Entry P)) (k : ℕ) (end : Ending) → ((e : Entry P) → may e → may' e)
      → IsEnding found may entries k end → IsEnding found may' entries k end
  ending_wider found may may' entries k (Unread b) wider is =
      record { next = is.next; here = is.here; named = is.named; cause = wider is.next is.cause }
  ending_wider found may may' entries k End wider is = is
  ending_wider found may may' entries k (Invalid b) wider is = is
  ending_wider found may may' entries k (PastEnd b) wider is = is

  pub next_wider : (found : Reading) (may may' : Entry P → Type 0)
      (entries : List (Entry P)) (k : ℕ) (x : Next P) → ((e : Entry P) → may e → may' e)
      → IsNext found may entries k x → IsNext found may' entries k x
  next_wider found may may' entries k (Page given) wider is = is
  next_wider found may may' entries k (Stop end) wider is =
      ending_wider found may may' entries k end wider is

  -- where no read has failed, the answer is that of synchronous reads
  pub synchronous : (told : Option Told) (s : StreamView P) (now : ActorView) (x : Next P)
      → HasNoFailedRead s.actor_was now → IsStreamAnswer told s now x
      → IsSynchronousAnswer told s x
  synchronous told s now x none is = next_wider _ _ (λ _. ⊥) _ s.given x
      (λ e may. (let more = may_counted s.actor_was now.known e may in
      let same = none.failed_results in absurd (omega arith)))
      is.next
