-- What is known of the pages of a map that a scan has read.
use Rattle.std.proofs.Common.{◌≡◌, ℕ, List, [], ◌∷◌, ◌≤◌, length, arith, subst}
use Rattle.std.specs.Prelude.{Option, ⊤}
use Rattle.page_check.specs.Told.{Told}
use Rattle.page_check.specs.SynchronousAnswer.{reading_of}
use Rattle.heap_scan.specs.Job.{job_entries}
use Rattle.vis_map.specs.Bits.{Map}
use Rattle.scan_settings.specs.ListOptions.{ListOptions}
use Rattle.scan_jobs.specs.ConsumedPages.{MapHasPages, PagesConsumed}
use Rattle.scan_jobs.specs.Jobs.{answered_ending}
use Rattle.scan_jobs.specs.declared.job.Ending.{Ending}
use Rattle.scan_rounds.specs.Rounds.{MapPagesConsumed}
use Rattle.scan_rounds.specs.declared.backend.Backend.{Backend}
use Rattle.scan_rounds.proofs.WiderAnswers.{answer_wider}

any_of : {X : Type 0} (xs : List X) → 1 ≤ length xs → X
any_of [] some = absurd (omega arith)
any_of (x ∷ xs) some = x

pub map_taken : {W D : Type 0} (m m' : ListOptions) (told : Option Told)
    (bs cs : List (Backend W D)) (relation k k' : ℕ) (found : Map) (warnings : List ℕ)
    (end : Ending) → 1 ≤ length bs → m' ≡ m → k' ≡ k
    → MapPagesConsumed m' told bs cs relation k' found warnings end
    → PagesConsumed (MapHasPages found warnings) m.rules told (λ _. ⊤) (job_entries relation 0 k)
    (answered_ending end)
map_taken m m' told bs cs relation k k' found warnings end some options count read =
    let given = read (any_of bs some) in
    let here : PagesConsumed (MapHasPages found warnings) m'.rules told (λ _. ⊤)
    (job_entries relation 0 k') (answered_ending end) = record {
      pages = given.pages;
      held = given.held;
      none_zeroed = given.none_zeroed;
      answers = answer_wider (reading_of m'.rules told) _ (λ _. ⊤) (job_entries relation 0 k') _
          (λ e may. tt) given.answers;
    } in
    subst (λ (n : ListOptions). PagesConsumed (MapHasPages found warnings) n.rules told (λ _. ⊤)
    (job_entries relation 0 k) (answered_ending end)) options
    (subst (λ (n : ℕ). PagesConsumed (MapHasPages found warnings) m'.rules told (λ _. ⊤)
    (job_entries relation 0 n) (answered_ending end)) count here)
