-- Answers, where an entry that may be unread may be so later.
use Rattle.std.proofs.Common.{◌≡◌, ℕ, List, [], ◌∷◌, length, subst}
use Rattle.std.specs.Prelude.{Option}
use Rattle.page_check.specs.Told.{Told}
use Rattle.page_check.specs.declared.rules.PageRules.{PageRules}
use Rattle.page_check.specs.SynchronousAnswer.{Reading, Ending as SaidEnding, reading_of}
use Rattle.page_check.specs.IsAnswer.{Answers, IsAnswer, IsEnding, OneEnding}
use Rattle.aio_word.specs.declared.Known.{Known}
use Rattle.aio_handle.specs.ContractViews.{ActorView}
use Rattle.read_stream.specs.FailedReads.{MayBeUnread}
use Rattle.read_stream.specs.ActorProgress.{ActorAdvanced}
use Rattle.read_stream.proofs.UnreadCauses.{ending_wider, may_later}
use Rattle.scan_jobs.specs.ConsumedPages.{PagesPredicate, PagesConsumed}
use Rattle.scan_jobs.proofs.UnitEntries.{E}

endings_wider : (found : Reading) (may may' : E → Type 0) (entries : List E) (k : ℕ)
    (ends : List SaidEnding) → ((e : E) → may e → may' e)
    → OneEnding (IsEnding found may entries k) ends
    → OneEnding (IsEnding found may' entries k) ends
endings_wider found may may' entries k [] wider is = tt
endings_wider found may may' entries k (end ∷ more) wider is =
    (ending_wider found may may' entries k end wider is.0, is.1)

-- answers, where an entry that may be unread may be so later
pub answer_wider : (found : Reading) (may may' : E → Type 0) (entries : List E)
    (answers : Answers (Unit {0})) → ((e : E) → may e → may' e)
    → IsAnswer found may entries answers → IsAnswer found may' entries answers
answer_wider found may may' entries answers wider a = record {
  first = a.first;
  endings = endings_wider found may may' entries (length answers.pages) answers.endings wider
      a.endings;
}

-- what was taken of a stream is so once the stream was closed
pub given_moved : (holds : PagesPredicate) (rules rules' : PageRules) (told : Option Told) (p p' : ActorView)
    (q z : Known) (reads reads' faults faults' : ℕ) (entries entries' : List E)
    (end : Option SaidEnding) → rules' ≡ rules → p' ≡ p → entries' ≡ entries
    → ActorAdvanced q z reads reads' faults faults'
    → PagesConsumed holds rules' told (MayBeUnread p' q) entries' end
    → PagesConsumed holds rules told (MayBeUnread p z) entries end
given_moved holds rules rules' told p p' q z reads reads' faults faults' entries entries' end read same
    list w given =
    let here : PagesConsumed holds rules told (MayBeUnread p q) entries end =
    subst (λ (b : PageRules). PagesConsumed holds b told (MayBeUnread p q) entries end) read
    (subst (λ (es : List E). PagesConsumed holds rules' told (MayBeUnread p q) es end) list
    (subst (λ (x : ActorView). PagesConsumed holds rules' told (MayBeUnread x q) entries' end)
    same given))
    in record {
      pages = here.pages;
      held = here.held;
      none_zeroed = here.none_zeroed;
      answers = answer_wider (reading_of rules told) (MayBeUnread p q) (MayBeUnread p z) entries _
          (may_later p q z reads reads' faults faults' w) here.answers;
    }
