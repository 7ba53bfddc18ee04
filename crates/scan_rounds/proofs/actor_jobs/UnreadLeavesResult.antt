-- A job that ended in Unread has left the result of a failed I/O in its actor's list.
use Rattle.std.proofs.Common.{◌≡◌, ℕ, ◌+◌, ◌≤◌, true, List}
use Rattle.std.specs.Prelude.{Option}
use Rattle.page_check.specs.Told.{Told}
use Rattle.page_check.specs.SynchronousAnswer.{Given, Reading, Unread, reading_of}
use Rattle.page_check.specs.IsAnswer.{IsAnswer, IsEnding}
use Rattle.aio_word.specs.declared.Known.{Known}
use Rattle.aio_word.specs.Tokens.{failed_result_count}
use Rattle.aio_handle.specs.ContractViews.{ActorView}
use Rattle.heap_scan.specs.Job.{endings_of}
use Rattle.read_stream.specs.FailedReads.{MayBeUnread}
use Rattle.read_stream.proofs.UnreadCauses.{may_counted}
use Rattle.scan_settings.specs.ListOptions.{ListOptions}
use Rattle.scan_jobs.specs.BlockFilter.{BlockFilter}
use Rattle.scan_jobs.specs.Jobs.{JobIsListed, is_unread, answered_ending, entries_of_job}
use Rattle.scan_jobs.specs.declared.job.Job.{Job}
use Rattle.scan_jobs.proofs.UnitEntries.{E}
use Rattle.scan_jobs.specs.declared.job.Ending.{Ending}
use Rattle.scan_jobs.specs.declared.job.Ending.TheVariants as ending

cause_of : (found : Reading) (may : E → Type 0) (entries : List E) (k : ℕ) (b : ℕ)
    → IsEnding found may entries k (Unread b) → (x : E) × may x
cause_of found may entries k b is = (is.next, is.cause)

-- answers that end in Unread have left one failed result more
pub unread_after : (found : Reading) (was : ActorView) (q : Known) (entries : List E)
    (pages : List (Given (Unit {0}))) (e : Ending)
    → IsAnswer found (MayBeUnread was q) entries
    (record { pages = pages; endings = endings_of (answered_ending e) })
    → is_unread e ≡ true → failed_result_count was.known.marks + 1 ≤ failed_result_count q.marks
unread_after found was q entries pages (ending.Unread b) a is =
    let (x, may) = cause_of found (MayBeUnread was q) entries _ b a.endings.0 in
    may_counted was q x may
unread_after found was q entries pages ending.Pages a is = absurd (cc)
unread_after found was q entries pages (ending.Invalid b) a is = absurd (cc)
unread_after found was q entries pages (ending.PastEnd b) a is = absurd (cc)
unread_after found was q entries pages ending.NoMemory a is = absurd (cc)

-- a job that ended in Unread left one failed result more
pub unread_counted : {block_filter : Option BlockFilter} (how : ListOptions) (told : Option Told)
    (was : ActorView) (q : Known) (j k : Job) → JobIsListed block_filter how told (MayBeUnread was
    q)
    j k → is_unread k.ending ≡ true → failed_result_count was.known.marks + 1
    ≤ failed_result_count q.marks
unread_counted {block_filter} how told was q j k l is =
    unread_after (reading_of how.rules told) was q (entries_of_job block_filter j)
    l.answer.pages k.ending l.answer.answers is
