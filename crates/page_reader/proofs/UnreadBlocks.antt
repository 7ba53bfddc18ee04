-- Which blocks may be unread: more of them later, and only where a read has failed.
use Rattle.std.proofs.Common.{ℕ, List, [], ◌∷◌, length}
use Rattle.std.specs.Prelude.{Option}
use Rattle.page_check.specs.Told.{Told}
use Rattle.page_check.specs.declared.rules.PageRules.{PageRules}
use Rattle.page_check.specs.SynchronousAnswer.{Entry, Ending, Reading, reading_of}
use Rattle.page_check.specs.IsAnswer.{IsEnding, OneEnding}
use Rattle.read_stream.proofs.UnreadCauses.{ending_wider}
use Rattle.page_reader.specs.declared.consumer.Ended.{Ended}
use Rattle.page_reader.specs.declared.consumer.Ended.TheVariants as ended
use Rattle.page_reader.specs.PagesTaken.{PagesPredicate, PagesTakenWhere, ReadHasFailed}
use Rattle.page_reader.specs.PagesTaken.{UnreadHasCause, endings_of}

module _ (may may' : Entry (Unit {0}) → Type 0) (wider : (e : Entry (Unit {0})) → may e → may' e)
  where
    endings_wider : (found : Reading) (entries : List (Entry (Unit {0}))) (k : ℕ)
        (ends : List Ending) → OneEnding (IsEnding found may entries k) ends
        → OneEnding (IsEnding found may' entries k) ends
    endings_wider found entries k [] is = tt
    endings_wider found entries k (end ∷ more) is =
        (ending_wider found may may' entries k end wider is.0, is.1)

    pub taken_wider : (holds : PagesPredicate) (rules : PageRules) (told : Option Told)
        (entries : List (Entry (Unit {0}))) (e : Ended)
        → PagesTakenWhere may holds rules told entries e
        → PagesTakenWhere may' holds rules told entries e
    taken_wider holds rules told entries e taken = record {
      pages = taken.pages;
      held = taken.held;
      answers = record {
        first = taken.answers.first;
        endings = endings_wider (reading_of rules told) entries (length taken.pages) (endings_of e)
            taken.answers.endings;
      };
    }

module _ (may : Entry (Unit {0}) → Type 0) (before now : ℕ)
    (cause : (e : Entry (Unit {0})) → may e → ReadHasFailed before now) where
  pub unread_has_cause : (holds : PagesPredicate) (rules : PageRules) (told : Option Told)
      (entries : List (Entry (Unit {0}))) (e : Ended)
      → PagesTakenWhere may holds rules told entries e → UnreadHasCause before now e
  unread_has_cause holds rules told entries ended.End taken = tt
  unread_has_cause holds rules told entries ended.Stopped taken = tt
  unread_has_cause holds rules told entries (ended.Invalid block) taken = tt
  unread_has_cause holds rules told entries (ended.PastEnd block) taken = tt
  unread_has_cause holds rules told entries (ended.Unread block) taken =
      cause taken.answers.endings.0.next taken.answers.endings.0.cause
